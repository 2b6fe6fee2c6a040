-- What the table gives on turns, kind by kind.
use Rattle.std.proofs.Common.{◌≡◌, ◌^◌, ◌&&◌, Bool, true, false, ℤ, pos, ◌+ℤ◌, ◌-ℤ◌, ◌*ℤ◌, Result, Ok, Err, refl, ap, ◌∙◌, arith}
use Rattle.std.specs.Prelude.{int_div, int_le, int_lt}
use Rattle.std.specs.Ordering.{int_eq}
use Rattle.std.proofs.Math.IntN.{*ℤ_comm}
use Rattle.std.proofs.lemmas.Int.{ints}
use Rattle.qq_base.specs.declared.refusal.Fault.{Fault}
use Rattle.qq_base.specs.declared.refusal.Fault.TheVariants as fault
use Rattle.const_eval.specs.Answers.{Fails}
use Rattle.qq_base.specs.declared.refusal.Refusal.{Refusal}
use Rattle.qq_base.specs.declared.refusal.Span.{Span}
use Rattle.qasm_ast.specs.declared.expr.BinaryOp.TheVariants as op
use Rattle.qasm_types.specs.declared.ty.Ty.TheVariants as t
use Rattle.qasm_types.specs.Types.{IsWholeConstant}
use Rattle.qasm_types.specs.Values.{Value, Units, is_constant, apply}
use Rattle.angle_arith.specs.Fraction.{Fraction}
use Rattle.const_eval.specs.declared.constant.WholeNumber.{WholeNumber}
use Rattle.const_eval.specs.declared.constant.Const.{Const}
use Rattle.const_eval.specs.declared.constant.Const.TheVariants as c
use Rattle.const_eval.specs.Constant.{Constant}
use Rattle.const_eval.specs.Refusing.{go_on}
use Rattle.const_eval.specs.Results.{constant_in_range}
use Rattle.const_eval.specs.Seen.{constant_of}
use Rattle.gate_lists.specs.Units.{word_of}
use Rattle.gate_arguments.specs.Arguments.{turn_result, units_of_part}
use Rattle.gate_arguments.specs.Rows.{divisor_beside, number_beside, units_beside}
use Rattle.gate_arguments.specs.Scope.{turn_of}
use Rattle.gate_arguments.specs.Words.{word_of_word}

-- ---- constants

-- the units of a constant, and what is made of them
step : (u : Result ℤ Refusal) (f : Value → Result Constant Refusal) → go_on (go_on u (λ z. Ok (Units z))) f ≡ go_on u (λ z. f (Units z))
step (Ok z) f = refl
step (Err e) f = refl

is_in_range : (z : ℤ) → IsWholeConstant z → is_constant z ≡ true
is_in_range z h = grind (arith, ints)

module _ (at left right : Span) (w : ℤ) where
  -- ---- two turns

  module _ (v : ℤ) where
    pub difference_of_turns : turn_result op.Subtract at (turn_of w) left (turn_of v) right ≡ Ok (turn_of (word_of w -ℤ word_of v))
    difference_of_turns = ap (λ (x : ℤ). Ok (turn_of (x -ℤ word_of (word_of v)))) (word_of_word w) ∙ ap (λ (y : ℤ). Ok (turn_of (word_of w -ℤ y))) (word_of_word v)

  -- ---- a turn, and behind it a constant

  pub sum_with_constant : (k : Const) → turn_result op.Add at (turn_of w) left (constant_of k) right ≡ go_on (units_beside at right (constant_of k)) (λ z. Ok (turn_of (word_of w +ℤ z)))
  sum_with_constant (c.Whole n) = refl
  sum_with_constant (c.Pi f) =
      step (units_of_part right f) (λ y. constant_in_range at t.Turn (apply op.Add t.Turn (Units (word_of (word_of w))) y))
      ∙ ap (λ (x : ℤ). go_on (units_of_part right f) (λ z. Ok (turn_of (x +ℤ z)))) (word_of_word w)
  sum_with_constant (c.Bool b) = refl
  sum_with_constant (c.Bits bits) = refl
  sum_with_constant (c.Angle a) = refl

  pub difference_with_constant : (k : Const) → turn_result op.Subtract at (turn_of w) left (constant_of k) right ≡ go_on (units_beside at right (constant_of k)) (λ z. Ok (turn_of (word_of w -ℤ z)))
  difference_with_constant (c.Whole n) = refl
  difference_with_constant (c.Pi f) =
      step (units_of_part right f) (λ y. constant_in_range at t.Turn (apply op.Subtract t.Turn (Units (word_of (word_of w))) y))
      ∙ ap (λ (x : ℤ). go_on (units_of_part right f) (λ z. Ok (turn_of (x -ℤ z)))) (word_of_word w)
  difference_with_constant (c.Bool b) = refl
  difference_with_constant (c.Bits bits) = refl
  difference_with_constant (c.Angle a) = refl

  pub product_with_constant : (k : Const) → turn_result op.Multiply at (turn_of w) left (constant_of k) right ≡ go_on (number_beside at (constant_of k)) (λ z. Ok (turn_of (word_of w *ℤ z)))
  product_with_constant (c.Whole n) = rw (is_in_range n.number n.in_range) (ap (λ (x : ℤ). Ok (turn_of (x *ℤ n.number))) (word_of_word w))
  product_with_constant (c.Pi f) = refl
  product_with_constant (c.Bool b) = refl
  product_with_constant (c.Bits bits) = refl
  product_with_constant (c.Angle a) = refl

  quotient_by : (z : ℤ) (zero inside : Bool) → int_eq z (pos 0) ≡ zero → int_le (pos 1) z && int_lt z (pos (2 ^ 63)) ≡ inside → IsWholeConstant z → (n : WholeNumber) → n.number ≡ z
      → turn_result op.Divide at (turn_of w) left (constant_of (c.Whole n)) right ≡ go_on (divisor_beside at right (constant_of (c.Whole n))) (λ z. Ok (turn_of (int_div (word_of w) z)))
  quotient_by z true inside zero range h n same = rw (same, zero) refl
  quotient_by z false true zero range h n same = rw (same, zero, range, is_in_range z h, zero) (ap (λ (x : ℤ). Ok (turn_of (int_div x z))) (word_of_word w))
  quotient_by z false false zero range h n same = rw (same, zero, range, is_in_range z h) refl

  pub quotient_with_constant : (k : Const) → turn_result op.Divide at (turn_of w) left (constant_of k) right ≡ go_on (divisor_beside at right (constant_of k)) (λ z. Ok (turn_of (int_div (word_of w) z)))
  quotient_with_constant (c.Whole n) = quotient_by n.number (int_eq n.number (pos 0)) (int_le (pos 1) n.number && int_lt n.number (pos (2 ^ 63))) refl refl n.in_range n refl
  quotient_with_constant (c.Pi f) = part_by f (int_eq f.num (pos 0)) refl
    where
      part_by : (f : Fraction) (zero : Bool) → int_eq f.num (pos 0) ≡ zero
          → turn_result op.Divide at (turn_of w) left (constant_of (c.Pi f)) right ≡ go_on (divisor_beside at right (constant_of (c.Pi f))) (λ z. Ok (turn_of (int_div (word_of w) z)))
      part_by f true zero = rw zero refl
      part_by f false zero = rw zero refl
  quotient_with_constant (c.Bool b) = refl
  quotient_with_constant (c.Bits bits) = refl
  quotient_with_constant (c.Angle a) = refl

  -- ---- a constant, and behind it a turn

  pub sum_behind_constant : (k : Const) → turn_result op.Add at (constant_of k) left (turn_of w) right ≡ go_on (units_beside at left (constant_of k)) (λ z. Ok (turn_of (z +ℤ word_of w)))
  sum_behind_constant (c.Whole n) = refl
  sum_behind_constant (c.Pi f) =
      step (units_of_part left f) (λ x. constant_in_range at t.Turn (apply op.Add t.Turn x (Units (word_of (word_of w)))))
      ∙ ap (λ (y : ℤ). go_on (units_of_part left f) (λ z. Ok (turn_of (z +ℤ y)))) (word_of_word w)
  sum_behind_constant (c.Bool b) = refl
  sum_behind_constant (c.Bits bits) = refl
  sum_behind_constant (c.Angle a) = refl

  pub difference_behind_constant : (k : Const) → turn_result op.Subtract at (constant_of k) left (turn_of w) right ≡ go_on (units_beside at left (constant_of k)) (λ z. Ok (turn_of (z -ℤ word_of w)))
  difference_behind_constant (c.Whole n) = refl
  difference_behind_constant (c.Pi f) =
      step (units_of_part left f) (λ x. constant_in_range at t.Turn (apply op.Subtract t.Turn x (Units (word_of (word_of w)))))
      ∙ ap (λ (y : ℤ). go_on (units_of_part left f) (λ z. Ok (turn_of (z -ℤ y)))) (word_of_word w)
  difference_behind_constant (c.Bool b) = refl
  difference_behind_constant (c.Bits bits) = refl
  difference_behind_constant (c.Angle a) = refl

  pub product_behind_constant : (k : Const) → turn_result op.Multiply at (constant_of k) left (turn_of w) right ≡ go_on (number_beside at (constant_of k)) (λ z. Ok (turn_of (word_of w *ℤ z)))
  product_behind_constant (c.Whole n) = rw (is_in_range n.number n.in_range) (ap (λ (y : ℤ). Ok (turn_of (n.number *ℤ y))) (word_of_word w) ∙ ap (λ (x : ℤ). Ok (turn_of x)) (*ℤ_comm n.number (word_of w)))
  product_behind_constant (c.Pi f) = refl
  product_behind_constant (c.Bool b) = refl
  product_behind_constant (c.Bits bits) = refl
  product_behind_constant (c.Angle a) = refl

-- a refusal goes through
pub go_fails : {A B : Type 0} (why : Fault) (r : Result A Refusal) (f : A → Result B Refusal) → Fails why r → Fails why (go_on r f)
go_fails fault.Memory r f h = tt
go_fails (fault.Refused refusal) r f h = ap (λ x. go_on x f) h
