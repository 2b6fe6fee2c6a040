-- Constants as they are met in a walk: in modifiers, in index brackets, in widths and in arguments of gates. Each is
-- worth what constant expressions are worth, and its nodes are counted behind its value, before what is asked of the value.
use Rattle.std.specs.Prelude.{ℕ, Bool, true, false, List, [], ◌∷◌, ℤ, unsigned_abs, Option, Some, None, Result, Ok}
use Rattle.qq_base.specs.declared.refusal.Refusal.{Refusal}
use Rattle.qq_base.specs.declared.refusal.Span.{Span}
use Rattle.qq_base.specs.declared.rule.Rule.TheVariants.{WidthRange}
use Rattle.qasm_ast.specs.declared.expr.Base.{Base}
use Rattle.qasm_ast.specs.declared.expr.Base.TheVariants as base
use Rattle.qasm_ast.specs.Tree.{Tree, Trees, no_tree, a_tree, Maybe, absent, present, Bracket, position, range, members, Brackets, no_bracket, a_bracket, place_of}
use Rattle.qasm_types.specs.declared.ty.Ty.{Ty}
use Rattle.alias_resolve.specs.declared.index.IndexValue.{IndexValue}
use Rattle.alias_resolve.specs.declared.index.IndexValue.TheVariants as i
use Rattle.const_eval.specs.Constant.{Constant}
use Rattle.const_eval.specs.Meaning.{Meaning}
use Rattle.const_eval.specs.ConstCast.{whole_at, plain_type, type_at, sized_type, is_width}
use Rattle.const_eval.specs.ConstValue.{constant_value}
use Rattle.const_eval.specs.Refusing.{where_allowed}
use Rattle.const_eval.specs.Walk.{Walk, asked, done, behind, then_walk}
use Rattle.const_eval.specs.Nodes.{nodes_of}

-- the number of qubits that a width gives: a whole constant from 1 to 1,024
abbrev pub qubit_count : Span → ℤ → Result ℕ Refusal
qubit_count place z = where_allowed (is_width base.Qubit z) WidthRange place (Ok (unsigned_abs z))

-- `means` says what each name means, and `exact` forbids remainders of whole constants
module _ (means : List ℕ → Meaning) (exact : Bool) where
  -- an expression that must be constant
  abbrev pub constant_walk : Tree → Walk Constant
  constant_walk a =
      then_walk (asked (constant_value means exact a)) (λ c.
      behind (nodes_of a) (done c))

  -- a whole number, where a constant of another kind may not stand
  abbrev pub whole_walk : Tree → Walk ℤ
  whole_walk a =
      then_walk (constant_walk a) (λ c.
      asked (whole_at (place_of a) c))

  -- the start, step or stop of a range, if it is there
  abbrev pub end_walk : Maybe → Walk (Option ℤ)
  end_walk absent = done None
  end_walk (present a) = then_walk (whole_walk a) (λ z. done (Some z))

  abbrev pub members_walk : Trees → Walk (List ℤ)
  members_walk no_tree = done []
  members_walk (a_tree a as') =
      then_walk (whole_walk a) (λ z.
      then_walk (members_walk as') (λ zs.
      done (z ∷ zs)))

  abbrev pub index_walk : Bracket → Walk IndexValue
  index_walk (position a) = then_walk (whole_walk a) (λ z. done (i.At z))
  index_walk (range start step stop _) =
      then_walk (end_walk start) (λ a.
      then_walk (end_walk step) (λ b.
      then_walk (end_walk stop) (λ c.
      done (i.Range a b c))))
  index_walk (members as') = then_walk (members_walk as') (λ zs. done (i.Set zs))

  -- the values of all indexes in brackets
  abbrev pub indexes_walk : Brackets → Walk (List IndexValue)
  indexes_walk no_bracket = done []
  indexes_walk (a_bracket b bs) =
      then_walk (index_walk b) (λ v.
      then_walk (indexes_walk bs) (λ vs.
      done (v ∷ vs)))

  -- ---- types as they are written

  -- the type of a value, with the width that is written, if one is
  abbrev pub type_walk : Base → Span → Maybe → Walk Ty
  type_walk base place absent = asked (type_at place (plain_type base))
  type_walk base place (present width) =
      then_walk (constant_walk width) (λ c.
      asked (sized_type base place (place_of width) c))

  -- how many qubits a type has, and whether it is a qubit alone, which has no width
  abbrev pub qubits_walk : Maybe → Walk (ℕ × Bool)
  qubits_walk absent = done (1, true)
  qubits_walk (present width) =
      then_walk (whole_walk width) (λ z.
      then_walk (asked (qubit_count (place_of width) z)) (λ n.
      done (n, false)))
