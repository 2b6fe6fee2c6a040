-- Expressions as they are known before the run: a constant, or a value of the run with its type. The rules of operators and
-- casts on them are those of the OpenQASM 3.0 specification, "Classical instructions" and "Types and Casting", by the tables
-- of types.
use Rattle.std.specs.Prelude.{ℕ, ◌*◌, ◌^◌, Bool, true, false, not, ◌&&◌, ◌||◌, if◌then◌else◌, ℤ, pos, int_le, int_lt, Option, Some, None, Result, Ok}
use Rattle.qq_base.specs.declared.refusal.Refusal.{Refusal}
use Rattle.qq_base.specs.declared.refusal.Span.{Span}
use Rattle.qq_base.specs.declared.rule.Rule.TheVariants.{TypeMismatch, ConstDivide, DivisorRange, ShiftRange}
use Rattle.qasm_ast.specs.declared.expr.BinaryOp.{BinaryOp}
use Rattle.qasm_ast.specs.declared.expr.UnaryOp.{UnaryOp}
use Rattle.qasm_types.specs.declared.ty.Ty.{Ty}
use Rattle.qasm_types.specs.declared.ty.Ty.TheVariants as t
use Rattle.qasm_types.specs.Operators.{group_of, Group, Quotient, Rest, Shift, Power}
use Rattle.qasm_types.specs.Plans.{operator_plan, unary_plan, is_word}
use Rattle.qasm_types.specs.Values.{taken}
use Rattle.const_eval.specs.Constant.{Constant, is_whole, is_part_of_pi, whole_in}
use Rattle.const_eval.specs.ConstOperators.{Row, has_row, is_zero, present_row, taken_at}
use Rattle.const_eval.specs.Refusing.{refused, where_allowed, go_on}

pub data Typed : Type 0 where
  Exactly : (c : Constant) → Typed
  Computed : (type : Ty) → Typed

abbrev pub type_of : Typed → Ty
type_of (Exactly c) = c.type
type_of (Computed type) = type

-- the value of a whole constant; 0 stands for that of anything else
abbrev pub whole_of_typed : Typed → ℤ
whole_of_typed (Exactly c) = whole_in c
whole_of_typed (Computed type) = pos 0

abbrev pub is_part : Typed → Bool
is_part (Exactly c) = is_part_of_pi c
is_part (Computed type) = false

-- ---- divisors and amounts

abbrev pub divides : Group → Bool
divides Quotient = true
divides Rest = true
divides _ = false

abbrev pub shifts : Group → Bool
shifts Shift = true
shifts _ = false

abbrev pub is_power : Group → Bool
is_power Power = true
is_power _ = false

abbrev pub is_constant_zero : Typed → Bool
is_constant_zero (Exactly c) = is_zero c
is_constant_zero (Computed type) = false

-- a whole constant from the least on and below a bound
abbrev pub is_whole_within : ℤ → ℤ → Typed → Bool
is_whole_within least bound (Exactly c) = is_whole c && (int_le least (whole_in c) && int_lt (whole_in c) bound)
is_whole_within least bound (Computed type) = false

-- a divisor is a whole constant from 1 to 2^63 - 1
abbrev pub is_divisor : Typed → Bool
is_divisor b = is_whole_within (pos 1) (pos (2 ^ 63)) b

-- the bits that a shift moves
abbrev pub shifted_width : Ty → ℕ
shifted_width (t.Int n) = n
shifted_width (t.Uint n) = n
shifted_width (t.Bits n) = n
shifted_width (t.Angle n) = n
shifted_width _ = 0

-- an amount is a whole constant from 0 below the width
abbrev pub is_amount : Ty → Typed → Bool
is_amount shifted b = is_whole_within (pos 0) (pos (shifted_width shifted)) b

-- ---- operators

-- a constant can be taken at the type at which the operator takes it: a fraction of pi beside an angle has a whole count
abbrev pub taken_typed : Span → Typed → Ty → Result (Unit {0}) Refusal
taken_typed place (Exactly c) type = go_on (taken_at place (taken c.type c.value type)) (λ x. Ok tt)
taken_typed place (Computed a) type = Ok tt

-- the row of the table for two operands
abbrev pub row_for : BinaryOp → Typed → Typed → Row
row_for o a b = operator_plan (group_of o) (type_of a) (whole_of_typed a) (type_of b) (whole_of_typed b)

-- The type of an operator's result at run time. Its own rules stand in the order of their numbers: a row, a divisor that is
-- not 0, no other use of pi than the table has, a fraction that can be taken, a divisor and an amount that are in range.
abbrev pub operator_type : BinaryOp → Span → Typed → Span → Typed → Span → Result Ty Refusal
operator_type o place a left b right =
    where_allowed (has_row (row_for o a b) || (is_part a || is_part b)) TypeMismatch place (
    where_allowed (not (divides (group_of o) && is_constant_zero b)) ConstDivide right (
    go_on (present_row place (row_for o a b)) (λ row.
    go_on (taken_typed left a row.0) (λ _.
    go_on (taken_typed right b row.1) (λ _.
    where_allowed (not (divides (group_of o)) || is_divisor b) DivisorRange right (
    where_allowed (not (shifts (group_of o)) || is_amount row.0 b) ShiftRange right (
    Ok row.2)))))))

abbrev pub where_typed : Span → Option Ty → Result Ty Refusal
where_typed place None = refused TypeMismatch place
where_typed place (Some type) = Ok type

-- the type of a unary operator's result at run time
abbrev pub unary_type : UnaryOp → Span → Typed → Result Ty Refusal
unary_type o place a = where_typed place (unary_plan o (type_of a) (whole_of_typed a))

-- ---- casts

abbrev pub is_angle : Ty → Bool
is_angle (t.Angle n) = true
is_angle _ = false

-- a cast between `bit[n]` and a word or an angle costs 4n
abbrev pub cast_cost : Ty → Ty → ℕ
cast_cost (t.Bits n) to = if is_word to || is_angle to then 4 * n else 0
cast_cost from (t.Bits n) = if is_word from || is_angle from then 4 * n else 0
cast_cost from to = 0

-- ---- measurements

-- the type of what is measured: a `bit` of a single qubit, and a `bit[n]` of a register of n
abbrev pub is_bits : Ty → Bool
is_bits t.Bit = true
is_bits (t.Bits n) = true
is_bits _ = false

-- the number of bits of such a type
abbrev pub bit_count : Ty → ℕ
bit_count (t.Bits n) = n
bit_count _ = 1
