-- The arguments of calls of gates. A constant is kept exactly until a gate of the target table is called. In the body of a
-- gate an argument may also be a turn, which is computed from run-time parameters: the angles of the OpenQASM 3.0
-- specification, "Types and Casting", in units of 2^-32 turn modulo 2^64.
use Rattle.std.specs.Prelude.{◌+◌, ◌-◌, ◌*◌, ◌^◌, ◌&&◌, ◌||◌, Bool, true, false, not, nat_le, List, [], ◌∷◌, ℤ, pos, int_le, int_lt, unsigned_abs, Option, Some, None, Result, Ok}
use Rattle.std.specs.Ordering.{int_eq}
use Rattle.qq_base.specs.declared.refusal.Refusal.{Refusal}
use Rattle.qq_base.specs.declared.refusal.Span.{Span}
use Rattle.qq_base.specs.declared.rule.Rule.TheVariants.{Unknown, WrongKind, NoCast, NotPiMultiple, NotDyadic, TurnRange, DivisorRange}
use Rattle.qasm_ast.specs.declared.expr.BinaryOp.{BinaryOp}
use Rattle.qasm_ast.specs.declared.expr.BinaryOp.TheVariants as op
use Rattle.qasm_ast.specs.Tree.{Called, word, qubit, Tree, named, unary, binary, cast, Trees, no_tree, a_tree, Brackets, no_bracket, a_bracket, place_of}
use Rattle.qasm_types.specs.declared.ty.Ty.{Ty}
use Rattle.qasm_types.specs.declared.ty.Ty.TheVariants as t
use Rattle.qasm_types.specs.Types.{cells_of}
use Rattle.qasm_types.specs.Operators.{group_of, Quotient, Group}
use Rattle.qasm_types.specs.Plans.{operator_plan}
use Rattle.qasm_types.specs.Values.{Value, Count, Units, PartOfPi, number_of, whole_of, taken, apply}
use Rattle.angle_arith.specs.Fraction.{Fraction, parts_of}
use Rattle.const_eval.specs.Constant.{Constant, whole_in}
use Rattle.const_eval.specs.ConstCast.{cast_of_constant}
use Rattle.const_eval.specs.ConstIndexes.{indexed_constant}
use Rattle.const_eval.specs.ConstOperators.{row_at, taken_at, unary_result}
use Rattle.const_eval.specs.ConstValue.{takes_brackets}
use Rattle.const_eval.specs.IsConstant.{is_constant}
use Rattle.const_eval.specs.Meaning.{Meaning, Held, Running, OtherThing, Nothing}
use Rattle.const_eval.specs.Results.{constant_in_range}
use Rattle.const_eval.specs.Refusing.{refused, where_allowed, go_on}
use Rattle.const_eval.specs.Walk.{Walk, asked, done, behind, then_walk}
use Rattle.const_eval.specs.ConstantWalk.{constant_walk, indexes_walk, type_walk}
use Rattle.gate_arguments.specs.Scope.{Scope, turn_of, is_turn}

-- ---- units

-- a number of constant units: at most 2^40 in size
abbrev pub limited : Span → Option ℤ → Result ℤ Refusal
limited place None = refused NotDyadic place
limited place (Some z) = where_allowed (nat_le (unsigned_abs z) (2 ^ 40)) TurnRange place (Ok z)

-- a fraction of pi in units, of which a turn has 2^32
abbrev pub units_of_part : Span → Fraction → Result ℤ Refusal
units_of_part place f = limited place (whole_of (parts_of f 32))

-- An argument of a gate of the target table, with its place. Units are never reduced modulo a turn.
abbrev pub units_at : Span → Constant → Result ℤ Refusal
units_at place c = of c.type c.value
  where
    of : Ty → Value → Result ℤ Refusal
    of t.Pi (PartOfPi f) = units_of_part place f
    of t.Whole x = where_allowed (int_eq (number_of x) (pos 0)) NotPiMultiple place (Ok (pos 0))
    of (t.Angle n) (Count c) = Ok (pos (c * 2 ^ (32 - n)))
    of t.Turn (Units z) = Ok z
    -- a truth value and a string of bits
    of _ x = refused NoCast place

-- ---- operators on turns

-- a part of pi beside a turn is taken as its units, and its rules stand at it
abbrev pub taken_beside_turn : Span → Constant → Ty → Result Value Refusal
taken_beside_turn place c type = of c.type c.value type
  where
    of : Ty → Value → Ty → Result Value Refusal
    of t.Pi (PartOfPi f) t.Turn = go_on (units_of_part place f) (λ z. Ok (Units z))
    of a x b = taken_at place (taken a x b)

-- a turn is divided by a whole constant from 1 to 2^63 - 1
abbrev pub has_divisor : Group → Constant → Constant → Bool
has_divisor Quotient a b = not (is_turn a) || (int_le (pos 1) (whole_in b) && int_lt (whole_in b) (pos (2 ^ 63)))
has_divisor _ a b = true

-- an operator of which an operand is a turn, with the places of the expression and of its operands
abbrev pub turn_result : BinaryOp → Span → Constant → Span → Constant → Span → Result Constant Refusal
turn_result o place a left b right =
    go_on (row_at true o place a b right (operator_plan (group_of o) a.type (whole_in a) b.type (whole_in b))) (λ row.
    go_on (taken_beside_turn left a row.0) (λ x.
    go_on (taken_beside_turn right b row.1) (λ y.
    where_allowed (has_divisor (group_of o) a b) DivisorRange right (
    constant_in_range place row.2 (apply o row.2 x y)))))

-- ---- arguments in the body of a gate

-- a node of an expression that is not constant counts 1 and the cells of its type, behind its rules
abbrev pub counted : Result Constant Refusal → Walk Constant
counted answer = then_walk (asked answer) (λ c. behind (1 + cells_of c.type) (done c))

-- what a name stands for, where it may be a run-time parameter
abbrev pub named_value : Span → ℤ → Meaning → Result Constant Refusal
named_value place units (Held c) = Ok c
named_value place units Running = Ok (turn_of units)
named_value place units OtherThing = refused WrongKind place
named_value place units Nothing = refused Unknown place

abbrev pub called_value : Scope → Span → Called → Result Constant Refusal
called_value scope place (word text) = named_value place (scope.units text) (scope.means text)
called_value scope place (qubit n) = refused WrongKind place

-- what may have brackets behind it
abbrev pub bracketed : Span → Brackets → Constant → Result Constant Refusal
bracketed place index c = where_allowed (takes_brackets c index) WrongKind place (Ok c)

abbrev pub selected_walk : Scope → Span → Brackets → Constant → Walk Constant
selected_walk scope place no_bracket c = done c
selected_walk scope place (a_bracket b bs) c =
    then_walk (indexes_walk scope.means true (a_bracket b bs)) (λ values.
    counted (indexed_constant place (a_bracket b bs) c values))

-- the walk of an operand: that of `**` must be constant
abbrev pub operand_of : BinaryOp → Walk Constant → Walk Constant → Walk Constant
operand_of op.Power constant any = constant
operand_of _ constant any = any

abbrev pub of_constancy : Bool → Walk Constant → Walk Constant → Walk Constant
of_constancy true constant running = constant
of_constancy false constant running = running

module _ (scope : Scope) where
  -- The value of an argument. A constant part of it is worth what constant expressions are worth, exactly, and what is not
  -- constant is a turn: `+` and `-` with turns and fractions of pi, `-`, `*` and `/` by a whole constant.
  abbrev pub argument_walk : Tree → Walk Constant
  argument_walk (named name index operand place) =
      of_constancy (is_constant scope.means (named name index operand place)) (constant_walk scope.means true (named name index operand place)) (
      then_walk (counted (go_on (called_value scope place name) (bracketed place index))) (λ c.
      selected_walk scope place index c))
  argument_walk (unary o a place) =
      of_constancy (is_constant scope.means (unary o a place)) (constant_walk scope.means true (unary o a place)) (
      then_walk (argument_walk a) (λ x.
      counted (unary_result o place x)))
  argument_walk (binary o a b place) =
      of_constancy (is_constant scope.means (binary o a b place)) (constant_walk scope.means true (binary o a b place)) (
      then_walk (operand_of o (constant_walk scope.means true a) (argument_walk a)) (λ x.
      then_walk (operand_of o (constant_walk scope.means true b) (argument_walk b)) (λ y.
      counted (turn_result o place x (place_of a) y (place_of b)))))
  argument_walk (cast base width type_place a place) =
      of_constancy (is_constant scope.means (cast base width type_place a place)) (constant_walk scope.means true (cast base width type_place a place)) (
      then_walk (type_walk scope.means true base type_place width) (λ type.
      then_walk (argument_walk a) (λ x.
      counted (cast_of_constant x type place))))
  -- a literal is constant, and a call is none: it is refused as in a constant
  argument_walk a = constant_walk scope.means true a

  abbrev pub arguments_walk : Trees → Walk (List Constant)
  arguments_walk no_tree = done []
  arguments_walk (a_tree a as') =
      then_walk (argument_walk a) (λ c.
      then_walk (arguments_walk as') (λ cs.
      done (c ∷ cs)))

-- the places of arguments
abbrev pub places_of : Trees → List Span
places_of no_tree = []
places_of (a_tree a as') = place_of a ∷ places_of as'

-- the units of all arguments, in order
abbrev pub units_of_all : List Span → List Constant → Result (List ℤ) Refusal
units_of_all (place ∷ places) (c ∷ cs) =
    go_on (units_at place c) (λ z.
    go_on (units_of_all places cs) (λ zs.
    Ok (z ∷ zs)))
units_of_all _ _ = Ok []
