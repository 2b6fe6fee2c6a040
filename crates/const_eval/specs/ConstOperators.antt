-- What operators give on constants, and the rules that are an operator's own: those of the OpenQASM 3.0 specification,
-- "Classical instructions", as the tables of types have them. Whole constants are exact.
use Rattle.std.specs.Prelude.{Bool, true, false, not, ◌&&◌, ◌||◌, pos, int_lt, int_rem, Option, Some, None, Result, Ok}
use Rattle.std.specs.Ordering.{int_eq}
use Rattle.qq_base.specs.declared.refusal.Refusal.{Refusal}
use Rattle.qq_base.specs.declared.refusal.Span.{Span}
use Rattle.qq_base.specs.declared.rule.Rule.{Rule}
use Rattle.qq_base.specs.declared.rule.Rule.TheVariants.{TypeMismatch, ConstRange, ConstDivide, NotPiMultiple, NotDyadic, ShiftRange}
use Rattle.qasm_ast.specs.declared.expr.BinaryOp.{BinaryOp}
use Rattle.qasm_ast.specs.declared.expr.UnaryOp.{UnaryOp}
use Rattle.qasm_types.specs.declared.ty.Ty.{Ty}
use Rattle.qasm_types.specs.Operators.{group_of, Group, Quotient, Rest, Shift, Power}
use Rattle.qasm_types.specs.Plans.{operator_plan, unary_plan}
use Rattle.qasm_types.specs.declared.ty.Ty.TheVariants as t
use Rattle.qasm_types.specs.Values.{Value, PartOfPi, number_of, taken, apply, apply_unary}
use Rattle.const_eval.specs.Constant.{Constant, is_whole, is_part_of_pi, whole_in}
use Rattle.const_eval.specs.Results.{constant_in_range}
use Rattle.const_eval.specs.Refusing.{refused, where_allowed, go_on}

-- the types at which an operator takes its operands, and that of its result
abbrev pub Row : Type 0
Row = Option (Ty × Ty × Ty)

abbrev pub has_row : Row → Bool
has_row None = false
has_row (Some row) = true

-- ---- the rules of the operands

-- an exponent is at least 0
abbrev pub has_exponent : Group → Constant → Bool
has_exponent Power b = not (int_lt (whole_in b) (pos 0))
has_exponent _ b = true

-- an amount is at least 0
abbrev pub has_amount : Group → Constant → Bool
has_amount Shift b = not (int_lt (whole_in b) (pos 0))
has_amount _ b = true

-- the whole number 0, or the fraction 0 of pi
abbrev pub is_zero : Constant → Bool
is_zero c = of c.type c.value
  where
    of : Ty → Value → Bool
    of t.Whole x = int_eq (number_of x) (pos 0)
    of t.Pi (PartOfPi f) = int_eq f.num (pos 0)
    of _ x = false

-- the quotient of whole constants leaves a remainder
abbrev pub leaves_rest : Constant → Constant → Bool
leaves_rest a b = is_whole a && is_whole b && not (int_eq (int_rem (whole_in a) (whole_in b)) (pos 0))

-- a divisor is not 0, and where the result must be exact no remainder is left
abbrev pub has_divisor : Bool → Group → Constant → Constant → Bool
has_divisor exact Quotient a b = not (is_zero b) && not (exact && leaves_rest a b)
has_divisor exact Rest a b = not (is_zero b)
has_divisor exact _ a b = true

-- ---- operators with their operands, each with its place

-- the value of an operand at the type at which the operator takes it: none is that of a fraction of pi whose count is not whole
abbrev pub taken_at : Span → Option Value → Result Value Refusal
taken_at place None = refused NotDyadic place
taken_at place (Some x) = Ok x

abbrev pub present_row : Span → Row → Result (Ty × Ty × Ty) Refusal
present_row place None = refused NotPiMultiple place
present_row place (Some types) = Ok types

-- The row of an operator, where none of its own rules is broken that are asked of its operands as they are. They stand in the
-- order of their numbers, so that of several the least stands: where the table has no row, the rule of pi is another than that
-- of all else. `exact` forbids a remainder of whole constants.
abbrev pub row_at : Bool → BinaryOp → Span → Constant → Constant → Span → Row → Result (Ty × Ty × Ty) Refusal
row_at exact o place a b right row =
    where_allowed (has_row row || (is_part_of_pi a || is_part_of_pi b)) TypeMismatch place (
    where_allowed (has_exponent (group_of o) b) ConstRange place (
    where_allowed (has_divisor exact (group_of o) a b) ConstDivide right (
    go_on (present_row place row) (λ types.
    where_allowed (has_amount (group_of o) b) ShiftRange right (Ok types)))))

-- the value of an operator with a row, on operands that are taken at its types
abbrev pub computed_at : BinaryOp → Span → Constant → Span → Constant → Span → Ty × Ty × Ty → Result Constant Refusal
computed_at o place a left b right row =
    go_on (taken_at left (taken a.type a.value row.0)) (λ x.
    go_on (taken_at right (taken b.type b.value row.1)) (λ y.
    constant_in_range place row.2 (apply o row.2 x y)))

abbrev pub binary_result : Bool → BinaryOp → Span → Constant → Span → Constant → Span → Result Constant Refusal
binary_result exact o place a left b right =
    go_on (row_at exact o place a b right (operator_plan (group_of o) a.type (whole_in a) b.type (whole_in b)))
    (computed_at o place a left b right)

-- the rule where the table has no row for a unary operator
abbrev pub no_row : Bool → Rule
no_row true = NotPiMultiple
no_row false = TypeMismatch

abbrev pub with_unary_row : UnaryOp → Span → Constant → Option Ty → Result Constant Refusal
with_unary_row o place a None = refused (no_row (is_part_of_pi a)) place
with_unary_row o place a (Some type) = constant_in_range place type (apply_unary o type a.value)

abbrev pub unary_result : UnaryOp → Span → Constant → Result Constant Refusal
unary_result o place a = with_unary_row o place a (unary_plan o a.type (whole_in a))
