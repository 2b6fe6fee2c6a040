-- Serves private contracts alone: the values of types as numbers.
use Rattle.std.specs.Prelude.{◌≡◌, ◌^◌, ◌<◌, ◌≤◌, Bool, true, false, length, ℤ, pos, ◌≤ℤ◌, ◌<ℤ◌, unsigned_abs, Option, Some, None, if◌then◌else◌}
use Rattle.std.specs.Option.{option_and_then, option_map}
use Rattle.std.specs.Ordering.{int_eq}
use Rattle.qasm_ast.specs.declared.expr.BinaryOp.{BinaryOp}
use Rattle.qasm_types.specs.declared.ty.Ty.{Ty}
use Rattle.qasm_types.specs.declared.ty.Ty.TheVariants as t
use Rattle.qasm_types.specs.Types.{IsWholeConstant}
use Rattle.qasm_types.specs.Values.{Value, Truth, Number, Count, is_constant, reduced_to, result_on_numbers, test_on_numbers}
use Rattle.const_eval.specs.declared.constant.Const.{Const}
use Rattle.const_eval.specs.declared.constant.Const.TheVariants as c

-- the types whose values are held as numbers
abbrev pub is_numbered : Ty → Bool
is_numbered (t.Bits n) = false
is_numbered t.Turn = false
is_numbered t.Pi = false
is_numbered _ = true

-- the value of such a type for which a number stands
abbrev pub value_for : Ty → ℤ → Value
value_for t.Bool z = Truth (int_eq z (pos 1))
value_for t.Bit z = Truth (int_eq z (pos 1))
value_for (t.Angle n) z = Count (unsigned_abs z)
value_for _ z = Number z

-- the numbers that stand for values
abbrev pub IsNumberOf : Ty → ℤ → Type 0
IsNumberOf t.Bool z = (pos 0 ≤ℤ z) × (z <ℤ pos 2)
IsNumberOf t.Bit z = (pos 0 ≤ℤ z) × (z <ℤ pos 2)
IsNumberOf (t.Angle n) z = (pos 0 ≤ℤ z) × (unsigned_abs z < 2 ^ n)
IsNumberOf _ z = IsWholeConstant z

-- a register has at most 64 bits
abbrev pub HasFewBits : Const → Type 0
HasFewBits (c.Bits bits) = length bits.text ≤ 64
HasFewBits _ = Unit {0}

-- r is the number of z reduced to a word type or `bit`; a whole constant is not reduced, and no other type is asked for
abbrev pub IsReducedNumber : Ty → ℤ → ℤ → Type 0
IsReducedNumber t.Bit z r = (reduced_to t.Bit z ≡ Some (value_for t.Bit r)) × IsNumberOf t.Bit r
IsReducedNumber (t.Int n) z r = (reduced_to (t.Int n) z ≡ Some (value_for (t.Int n) r)) × IsNumberOf (t.Int n) r
IsReducedNumber (t.Uint n) z r = (reduced_to (t.Uint n) z ≡ Some (value_for (t.Uint n) r)) × IsNumberOf (t.Uint n) r
IsReducedNumber t.Whole z r = (r ≡ z) × IsNumberOf t.Whole r
IsReducedNumber _ z r = Unit {0}

-- a whole number, where it is in the range of constants
abbrev pub in_range : ℤ → Option ℤ
in_range z = if is_constant z then Some z else None

-- what an operator gives on numbers that stand for values, with a result of this type
abbrev pub applied : BinaryOp → Ty → ℤ → ℤ → Option Value
applied o t.Bool x y = option_map Truth (test_on_numbers o x y)
applied o type x y = option_and_then (reduced_to type) (result_on_numbers o x y)
