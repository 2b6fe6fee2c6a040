-- The value of a constant expression, or the first rule that it breaks. The walk goes from left to right, and the operands
-- of an operator come before its own rules. It is the compile-time evaluation of the OpenQASM 3.0 specification, "Types
-- and Casting", with this profile's exactness and ranges.
use Rattle.std.specs.Prelude.{ℕ, Bool, true, List, [], ◌∷◌, reverse, ℤ, pos, Option, None, Some, Result, Ok}
use Rattle.qq_base.specs.declared.refusal.Refusal.{Refusal}
use Rattle.qq_base.specs.declared.refusal.Span.{Span}
use Rattle.qq_base.specs.declared.rule.Rule.TheVariants.{Unknown, WrongKind, NotConstant, CallPlace}
use Rattle.qasm_ast.specs.declared.expr.Base.{Base}
use Rattle.qasm_ast.specs.Tree.{Called, word, qubit, Tree, named, wire, number, truth, bit_string, unary, binary, cast, call, cut, Trees, no_tree, a_tree, Maybe, absent, present, Bracket, position, range, members, Brackets, no_bracket, a_bracket, place_of}
use Rattle.qasm_types.specs.declared.ty.Ty.{Ty}
use Rattle.alias_resolve.specs.declared.index.IndexValue.{IndexValue}
use Rattle.alias_resolve.specs.declared.index.IndexValue.TheVariants as i
use Rattle.const_eval.specs.Constant.{Constant, whole, truth_value, register_of, is_register}
use Rattle.const_eval.specs.Meaning.{Meaning, Held, Running, OtherThing, Nothing}
use Rattle.const_eval.specs.ConstCast.{cast_of_constant, whole_at, plain_type, type_at, sized_type}
use Rattle.const_eval.specs.ConstOperators.{binary_result, unary_result}
use Rattle.const_eval.specs.ConstIndexes.{indexed_constant}
use Rattle.const_eval.specs.Refusing.{refused, where_allowed, go_on}

-- what brackets may stand behind: none behind a constant that is no register
abbrev pub takes_brackets : Constant → Brackets → Bool
takes_brackets c no_bracket = true
takes_brackets c (a_bracket b bs) = is_register c

-- a constant with brackets, once the values of the brackets are known
abbrev pub with_brackets : Span → Brackets → Constant → List IndexValue → Result Constant Refusal
with_brackets place no_bracket c values = Ok c
with_brackets place (a_bracket b bs) c values = indexed_constant place (a_bracket b bs) c values

-- The constant that a name means. A name of a run-time value makes the whole expression no constant one, which stands at
-- `whole_place`, the place of the outermost expression.
abbrev pub meant : Span → Span → Meaning → Result Constant Refusal
meant whole_place place (Held c) = Ok c
meant whole_place place Running = refused NotConstant whole_place
meant whole_place place OtherThing = refused WrongKind place
meant whole_place place Nothing = refused Unknown place

-- a qubit is no value
abbrev pub called_constant : (List ℕ → Meaning) → Span → Span → Called → Result Constant Refusal
called_constant means whole_place place (word text) = meant whole_place place (means text)
called_constant means whole_place place (qubit n) = refused WrongKind place

-- No call is constant. A name that is not visible, or that is a value, is none to call.
abbrev pub called_in_constant : Span → Meaning → Result Constant Refusal
called_in_constant place Nothing = refused Unknown place
called_in_constant place OtherThing = refused CallPlace place
called_in_constant place _ = refused WrongKind place

-- a whole number, where a constant of another kind may not stand, with the place of the expression
abbrev pub whole_from : Span → Result Constant Refusal → Result ℤ Refusal
whole_from place answer = go_on answer (λ x. whole_at place x)

-- `means` says what each name means, `exact` forbids remainders of whole constants, and `whole_place` is the place of the
-- outermost expression
module _ (means : List ℕ → Meaning) (exact : Bool) (whole_place : Span) where
  abbrev mutual
    pub value : Tree → Result Constant Refusal
    value (named name index _ place) =
        go_on (called_constant means whole_place place name) (λ c.
        where_allowed (takes_brackets c index) WrongKind place (
        go_on (index_values index) (λ values.
        with_brackets place index c values)))
    value (wire n place) = refused WrongKind place
    value (number n place) = Ok (whole (pos n))
    value (truth b place) = Ok (truth_value b)
    -- the rightmost character is index 0
    value (bit_string bits place) = Ok (register_of (reverse bits))
    value (unary o a place) =
        go_on (value a) (λ x.
        unary_result o place x)
    value (binary o a b place) =
        go_on (value a) (λ x.
        go_on (value b) (λ y.
        binary_result exact o place x (place_of a) y (place_of b)))
    value (cast base width type_place a place) =
        go_on (written_type base width type_place) (λ type.
        go_on (value a) (λ x.
        cast_of_constant x type place))
    value (call name as' place) = called_in_constant place (means name)
    -- what stands for no expression
    value cut = refused Unknown (place_of cut)

    -- a type with the width that is written, if one is
    pub written_type : Base → Maybe → Span → Result Ty Refusal
    written_type base absent place = type_at place (plain_type base)
    written_type base (present width) place =
        go_on (value width) (λ n.
        sized_type base place (place_of width) n)

    -- the values of all indexes in brackets, each a whole constant
    pub index_values : Brackets → Result (List IndexValue) Refusal
    index_values no_bracket = Ok []
    index_values (a_bracket b bs) =
        go_on (index_value b) (λ v.
        go_on (index_values bs) (λ vs.
        Ok (v ∷ vs)))

    pub index_value : Bracket → Result IndexValue Refusal
    index_value (position a) =
        go_on (whole_from (place_of a) (value a)) (λ z.
        Ok (i.At z))
    index_value (range start step stop _) =
        go_on (end_value start) (λ a.
        go_on (end_value step) (λ b.
        go_on (end_value stop) (λ c.
        Ok (i.Range a b c))))
    index_value (members as') =
        go_on (member_values as') (λ zs.
        Ok (i.Set zs))

    -- the start, step or stop of a range, if it is there
    pub end_value : Maybe → Result (Option ℤ) Refusal
    end_value absent = Ok None
    end_value (present a) =
        go_on (whole_from (place_of a) (value a)) (λ z.
        Ok (Some z))

    pub member_values : Trees → Result (List ℤ) Refusal
    member_values no_tree = Ok []
    member_values (a_tree a as') =
        go_on (whole_from (place_of a) (value a)) (λ z.
        go_on (member_values as') (λ zs.
        Ok (z ∷ zs)))

-- The value of a constant expression, which is the outermost one.
abbrev pub constant_value : (List ℕ → Meaning) → Bool → Tree → Result Constant Refusal
constant_value means exact a = value means exact (place_of a) a
