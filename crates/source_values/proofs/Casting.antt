-- Casts of values, by their types.
use Rattle.std.proofs.Common.{◌≡◌, ℕ, ◌^◌, Bool, true, false, if◌then◌else◌, List, length, Option, Some, ℤ, pos, refl, sym, ap, subst, ◌∙◌}
use Rattle.std.specs.Int.{int_rem_euclid}
use Rattle.std.specs.Int.RustNames.{unsigned_abs}
use Rattle.std.specs.Option.{option_map}
use Rattle.word_arith.specs.Whole.{IsCongruent}
use Rattle.qasm_types.specs.declared.ty.Ty.{Ty}
use Rattle.qasm_types.specs.declared.ty.Ty.TheVariants as t
use Rattle.qasm_types.specs.Types.{IsType}
use Rattle.qasm_types.specs.Values.{Value, Register, Number, Count, number_of, bits_of, cast, reduced_to}
use Rattle.const_eval.specs.declared.constant.AngleCount.{AngleCount}
use Rattle.const_eval.specs.declared.constant.WholeNumber.{WholeNumber}
use Rattle.const_eval.specs.Constant.{Constant, register_of}
use Rattle.const_eval.specs.Values.{typed, zero_of}
use Rattle.angle_arith.specs.declared.fraction.PiFraction.{PiFraction}
use Rattle.source_values.specs.declared.value.TypedValue.{TypedValue}
use Rattle.source_values.specs.declared.value.TypedValue.TheVariants as v
use Rattle.source_values.specs.Reduced.{ReduceAlike}
use Rattle.source_values.specs.Seen.{is_written, seen, seen_angle}
use Rattle.source_values.proofs.RegisterBits.{bits_of-zero}

-- a value of a type, where its content is known
pub from_content : (r : Constant) (ty : Ty) (o : Option Value) → r.type ≡ ty → o ≡ Some r.value → Some r ≡ option_map (typed ty) o
from_content r ty o e f = (λ i. Some (record { type = e i; value = r.value })) ∙ ap (option_map (typed ty)) (sym f)

pub zero_register : (ty : Ty) (n : ℕ) (items : List Bool) → ty ≡ t.Bits n → items ≡ bits_of n (pos 0) → length items ≡ n → register_of items ≡ typed ty (zero_of ty)
zero_register ty n items e f count =
    subst (λ (x : Ty). register_of items ≡ typed x (zero_of x)) (sym e) (λ i. record { type = t.Bits (count i); value = Register ((f ∙ bits_of-zero n) i) })

module _ (alike : ReduceAlike) where
  -- to `bit` and words
  pub reduced_cast : (a : Ty) (x : Value) (ty : Ty) (low : ℤ) (r : Constant) → IsType ty → is_written ty ≡ true
      → (ty ≡ t.Bool → ⊥) → ((n : ℕ) → ty ≡ t.Bits n → ⊥) → ((n : ℕ) → ty ≡ t.Angle n → ⊥)
      → IsCongruent (2 ^ 64) low (number_of x) → r.type ≡ ty → reduced_to ty low ≡ Some r.value → Some r ≡ option_map (typed ty) (cast a x ty)
  reduced_cast a x t.Bit low r is written bool bits angle h e f = from_content r t.Bit _ e (sym (alike t.Bit is refl low (number_of x) h) ∙ f)
  reduced_cast a x (t.Int n) low r is written bool bits angle h e f = from_content r (t.Int n) _ e (sym (alike (t.Int n) is refl low (number_of x) h) ∙ f)
  reduced_cast a x (t.Uint n) low r is written bool bits angle h e f = from_content r (t.Uint n) _ e (sym (alike (t.Uint n) is refl low (number_of x) h) ∙ f)
  reduced_cast a x t.Bool low r is written bool bits angle h e f = absurd (bool refl)
  reduced_cast a x (t.Bits n) low r is written bool bits angle h e f = absurd (bits n refl)
  reduced_cast a x (t.Angle n) low r is written bool bits angle h e f = absurd (angle n refl)
  reduced_cast a x t.Turn low r is written bool bits angle h e f = absurd cc
  reduced_cast a x t.Whole low r is written bool bits angle h e f = absurd cc
  reduced_cast a x t.Pi low r is written bool bits angle h e f = absurd cc

  angle_of_word : (signed : Bool) (m n : ℕ) (z : ℤ) → cast (if signed then t.Int m else t.Uint m) (Number z) (t.Angle n) ≡ reduced_to (t.Angle n) z
  angle_of_word true m n z = refl
  angle_of_word false m n z = refl

  angle_of_other : (value : TypedValue) (n : ℕ) → ((a : AngleCount) → value ≡ v.Angle a → ⊥) → ((a : WholeNumber) → value ≡ v.Whole a → ⊥) → ((a : PiFraction) → value ≡ v.Pi a → ⊥)
      → cast (seen value).type (seen value).value (t.Angle n) ≡ reduced_to (t.Angle n) (number_of (seen value).value)
  angle_of_other (v.Bool b) n angle whole part = refl
  angle_of_other (v.Bit b) n angle whole part = refl
  angle_of_other (v.Bits r) n angle whole part = refl
  angle_of_other (v.Word w) n angle whole part = angle_of_word w.ty.signed w.ty.width n w.number
  angle_of_other (v.Angle a) n angle whole part = absurd (angle a refl)
  angle_of_other (v.Whole a) n angle whole part = absurd (whole a refl)
  angle_of_other (v.Pi a) n angle whole part = absurd (part a refl)

  -- to an angle
  pub angle_cast : (value : TypedValue) (n : ℕ) (low : ℤ) (r : AngleCount) → IsType (t.Angle n)
      → ((a : AngleCount) → value ≡ v.Angle a → ⊥) → ((a : WholeNumber) → value ≡ v.Whole a → ⊥) → ((a : PiFraction) → value ≡ v.Pi a → ⊥)
      → IsCongruent (2 ^ 64) low (number_of (seen value).value) → r.width ≡ n → r.count ≡ unsigned_abs (int_rem_euclid low (pos (2 ^ n)))
      → Some (seen_angle r) ≡ option_map (typed (t.Angle n)) (cast (seen value).type (seen value).value (t.Angle n))
  angle_cast value n low r is angle whole part h e f =
      from_content (seen_angle r) (t.Angle n) _ (ap t.Angle e)
      (angle_of_other value n angle whole part ∙ sym (alike (t.Angle n) is refl low (number_of (seen value).value) h) ∙ ap (λ k. Some (Count k)) (sym f))
