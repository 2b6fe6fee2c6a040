-- The value of a pure expression in the middle of a run, where each name has the value that the innermost scope gives it. Both
-- operands of every operator are evaluated, which no run can tell. No accepted program meets a value that is not there, for
-- which 0 stands.
use Rattle.std.specs.Prelude.{ℕ, Bool, true, false, List, [], ◌∷◌, replicate, ℤ, pos, Option, Some, None, Result, Ok, Err}
use Rattle.qq_base.specs.declared.run.QubitId.{QubitId}
use Rattle.qasm_ast.specs.declared.expr.BinaryOp.{BinaryOp}
use Rattle.qasm_ast.specs.declared.expr.UnaryOp.{UnaryOp}
use Rattle.qasm_ast.specs.Tree.{Called, word, qubit, Tree, named, unary, binary, cast, Maybe, absent, present, Brackets, no_bracket, a_bracket, Scalar, Operand}
use Rattle.angle_arith.specs.Fraction.{fraction_of}
use Rattle.qasm_types.specs.declared.ty.Ty.{Ty}
use Rattle.qasm_types.specs.declared.ty.Ty.TheVariants as t
use Rattle.qasm_types.specs.Operators.{group_of}
use Rattle.qasm_types.specs.Plans.{operator_plan, unary_plan}
use Rattle.qasm_types.specs.Values.{Value, Truth, Register, Number, Count, Units, PartOfPi, number_of, apply_unary, result_of}
use Rattle.qasm_types.specs.Values as value
use Rattle.alias_resolve.specs.Places.{Selected, selected_of, positions_of}
use Rattle.scope_env.specs.OpenScopes.{OpenScopes, find}
use Rattle.const_eval.specs.Constant.{Constant, whole, whole_in, bits_in}
use Rattle.const_eval.specs.Meaning.{Meaning}
use Rattle.const_eval.specs.ConstOperators.{Row}
use Rattle.const_eval.specs.ConstValue.{constant_value}
use Rattle.const_eval.specs.IsConstant.{is_constant}
use Rattle.const_eval.specs.ConstantWalk.{indexes_walk, type_walk}
use Rattle.const_eval.specs.Operands.{operand_walk}
use Rattle.const_eval.specs.Selecting.{type_of_selected}
use Rattle.const_eval.specs.Things.{Thing, Fixed, Variable, Counter, means_in, named_qubits}

-- a value with its type, as a constant has it
abbrev pub TypedValue : Type 0
TypedValue = Constant

abbrev pub typed : Ty → Value → TypedValue
typed type x = record { type = type; value = x }

-- ---- what stands for a value that is not there

abbrev pub zero_of : Ty → Value
zero_of t.Bool = Truth false
zero_of t.Bit = Truth false
zero_of (t.Bits n) = Register (replicate n false)
zero_of (t.Int n) = Number (pos 0)
zero_of (t.Uint n) = Number (pos 0)
zero_of (t.Angle n) = Count 0
zero_of t.Turn = Units (pos 0)
zero_of t.Whole = Number (pos 0)
zero_of t.Pi = PartOfPi (fraction_of (pos 0) (pos 1))

abbrev pub or_zero : Ty → Option Value → Value
or_zero type None = zero_of type
or_zero type (Some x) = x

-- an answer, and what stands for it where it is refused
abbrev pub value_or : {A E : Type 0} → Result A E → A → A
value_or (Ok a) otherwise = a
value_or (Err e) otherwise = otherwise

abbrev pub no_items : {A : Type 0} → Selected A
no_items = record { items = []; single = false }

-- ---- values

-- a value cast to a type
abbrev pub cast_to : Ty → TypedValue → TypedValue
cast_to type x = typed type (or_zero type (value.cast x.type x.value type))

-- a value as a whole number
abbrev pub number_in : TypedValue → ℤ
number_in x = number_of x.value

-- a value as a truth value
abbrev pub holds : TypedValue → Bool
holds x = of (cast_to t.Bool x).value
  where
    of : Value → Bool
    of (Truth b) = b
    of _ = false

-- a list of bits as a value: a single one is a truth value
abbrev pub typed_bits : Selected Bool → TypedValue
typed_bits s = of s.single s.items (type_of_selected s)
  where
    of : Bool → List Bool → Ty → TypedValue
    of true (b ∷ bits) type = typed type (Truth b)
    of _ bits type = typed type (Register bits)

-- the bits of a truth value or a register
abbrev pub bits_in_value : Value → List Bool
bits_in_value (Truth b) = b ∷ []
bits_in_value (Register bits) = bits
bits_in_value _ = []

-- an operator on two values, by the row of the table for their types
abbrev pub binary_by : BinaryOp → TypedValue → TypedValue → Row → TypedValue
binary_by o a b None = typed t.Bool (Truth false)
binary_by o a b (Some row) = typed row.2 (or_zero row.2 (result_of o a.type a.value b.type b.value row.0 row.1 row.2))

abbrev pub binary_on : BinaryOp → TypedValue → TypedValue → TypedValue
binary_on o a b = binary_by o a b (operator_plan (group_of o) a.type (whole_in a) b.type (whole_in b))

abbrev pub unary_by : UnaryOp → TypedValue → Option Ty → TypedValue
unary_by o a None = typed t.Bool (Truth false)
unary_by o a (Some type) = typed type (or_zero type (apply_unary o type a.value))

abbrev pub unary_on : UnaryOp → TypedValue → TypedValue
unary_on o a = unary_by o a (unary_plan o a.type (whole_in a))

-- ---- expressions

-- `means` says what each name means
module _ (means : List ℕ → Meaning) where
  -- the type that is written
  abbrev pub type_by : Scalar → Ty
  type_by type = value_or (type_walk means false type.base type.place type.width).answer t.Bool

  -- the constant that an expression is worth; where it must be exact it is the same
  abbrev pub constant_by : Tree → Constant
  constant_by a = value_or (constant_value means false a) (whole (pos 0))

  -- a constant expression has the value of its constant, another one by its parts
  abbrev pub constant_or : Tree → TypedValue → TypedValue
  constant_or a parts = of (is_constant means a)
    where
      of : Bool → TypedValue
      of true = constant_by a
      of false = parts

  -- what brackets select of a value's bits
  abbrev pub indexed : Brackets → TypedValue → TypedValue
  indexed no_bracket x = x
  indexed (a_bracket b bs) x = typed_bits (value_or (selected_of (bits_in x) (value_or (indexes_walk means false (a_bracket b bs)).answer [])) no_items)

  -- and `held` the value that a name has
  module _ (held : List ℕ → TypedValue) where
    abbrev pub value_of_name : Called → TypedValue
    value_of_name (word text) = held text
    value_of_name (qubit n) = whole (pos 0)

    abbrev pub evaluated : Tree → TypedValue
    evaluated (named name index operand place) = constant_or (named name index operand place) (indexed index (value_of_name name))
    evaluated (unary o a place) = constant_or (unary o a place) (unary_on o (evaluated a))
    evaluated (binary o a b place) = constant_or (binary o a b place) (binary_on o (evaluated a) (evaluated b))
    evaluated (cast base width type_place a place) =
        constant_or (cast base width type_place a place) (cast_to (type_by (record { base = base; width = width; place = type_place })) (evaluated a))
    evaluated a = constant_by a

-- ---- in the open scopes of a run

-- the open scopes with the values of their variables
abbrev pub Frames : Type 0
Frames = OpenScopes (Thing Value)

abbrev pub value_of_thing : Option (Thing Value) → TypedValue
value_of_thing (Some (Fixed c)) = c
value_of_thing (Some (Variable type x)) = typed type x
value_of_thing (Some (Counter type x)) = typed type x
value_of_thing _ = whole (pos 0)

module _ (frames : Frames) where
  -- the value that a name has
  abbrev pub held_in : List ℕ → TypedValue
  held_in text = value_of_thing (find text frames)

  abbrev pub value_in : Tree → TypedValue
  value_in a = evaluated (means_in frames) held_in a

  -- whether a condition holds
  abbrev pub test : Tree → Bool
  test a = holds (value_in a)

  -- an expression cast to a type
  abbrev pub value_at : Ty → Tree → TypedValue
  value_at type a = cast_to type (value_in a)

  -- the step of a range; a missing one is 1
  abbrev pub step_in : Maybe → ℤ
  step_in absent = pos 1
  step_in (present a) = number_in (value_in a)

  -- the type that is written
  abbrev pub type_in : Scalar → Ty
  type_in type = type_by (means_in frames) type

  -- the qubits of an operand
  abbrev pub qubits_in : Operand → Selected QubitId
  qubits_in o = value_or (operand_walk (means_in frames) (named_qubits frames) o).answer no_items

  -- the places of a target's brackets in a register of n
  abbrev pub places_in : ℕ → Brackets → Selected ℕ
  places_in n index = value_or (positions_of n (value_or (indexes_walk (means_in frames) false index).answer [])) no_items
