-- What unary operators give on values.
use Rattle.std.proofs.Common.{◌≡◌, ℕ, suc, ◌+◌, ◌-◌, ◌*◌, ◌/◌, ◌%◌, Bool, true, false, not, List, [], ◌∷◌, length, map, Option, Some, ℤ, pos, negsuc, neg_ℤ, ◌-ℤ◌, refl, sym, ap, ◌∙◌, arith}
use Rattle.std.specs.Ordering.{int_eq}
use Rattle.std.proofs.lemmas.Int.{ints}
use Rattle.qasm_ast.specs.declared.expr.UnaryOp.TheVariants.{Complement, Negate}
use Rattle.qasm_types.specs.declared.ty.Ty.{Ty}
use Rattle.qasm_types.specs.declared.ty.Ty.TheVariants as t
use Rattle.qasm_types.specs.Plans.{complements, negates}
use Rattle.qasm_types.specs.Values.{Value, Register, apply_unary, bits_of, number_of, number_of_bits, reduced_to}
use Rattle.const_eval.specs.Constant.{Constant, register_of}
use Rattle.const_eval.specs.Values.{or_zero, typed}
use Rattle.source_values.specs.declared.value.TypedValue.{TypedValue}
use Rattle.source_values.specs.declared.value.TypedValue.TheVariants as v
use Rattle.source_values.specs.Reduced.{is_bits, is_reducing}
use Rattle.source_values.specs.Seen.{is_written, seen}

pub complement_reduces : (ty : Ty) → complements ty ≡ true → is_written ty ≡ true → is_bits ty ≡ false → is_reducing ty ≡ true
complement_reduces t.Bit row written bits = refl
complement_reduces (t.Int n) row written bits = refl
complement_reduces (t.Uint n) row written bits = refl
complement_reduces (t.Bits n) row written bits = absurd cc
complement_reduces t.Whole row written bits = absurd cc
complement_reduces t.Bool row written bits = absurd cc
complement_reduces (t.Angle n) row written bits = absurd cc
complement_reduces t.Turn row written bits = absurd cc
complement_reduces t.Pi row written bits = absurd cc

pub negative_reduces : (ty : Ty) → negates ty ≡ true → is_written ty ≡ true → is_reducing ty ≡ true
negative_reduces (t.Int n) row written = refl
negative_reduces (t.Uint n) row written = refl
negative_reduces (t.Angle n) row written = refl
negative_reduces t.Bit row written = absurd cc
negative_reduces (t.Bits n) row written = absurd cc
negative_reduces t.Whole row written = absurd cc
negative_reduces t.Bool row written = absurd cc
negative_reduces t.Turn row written = absurd cc
negative_reduces t.Pi row written = absurd cc

pub negative_is_no_register : (ty : Ty) → negates ty ≡ true → is_bits ty ≡ false
negative_is_no_register (t.Bits n) row = absurd cc
negative_is_no_register _ row = refl

-- a value whose content is what a number reduces to
content : (r : Constant) (ty : Ty) (o : Option Value) → r.type ≡ ty → o ≡ Some r.value → r ≡ typed ty (or_zero ty o)
content r ty o e f = (λ i. record { type = e i; value = r.value }) ∙ ap (λ p. typed ty (or_zero ty p)) (sym f)

module _ (value : TypedValue) (z : ℤ) (r : Constant) where
  pub complement_of_number : is_bits (seen value).type ≡ false → z ≡ neg_ℤ (number_of (seen value).value) -ℤ pos 1 → r.type ≡ (seen value).type → reduced_to (seen value).type z ≡ Some r.value
      → r ≡ typed (seen value).type (or_zero (seen value).type (apply_unary Complement (seen value).type (seen value).value))
  complement_of_number bits e s f = content r (seen value).type _ s (ap (reduced_to (seen value).type) (sym e) ∙ f)

  pub negative_of_number : is_written (seen value).type ≡ true → z ≡ neg_ℤ (number_of (seen value).value) → r.type ≡ (seen value).type → reduced_to (seen value).type z ≡ Some r.value
      → r ≡ typed (seen value).type (or_zero (seen value).type (apply_unary Negate (seen value).type (seen value).value))
  negative_of_number written e s f = content r (seen value).type _ s (no_part value written ∙ ap (reduced_to (seen value).type) (sym e) ∙ f)
    where
      no_part : (x : TypedValue) → is_written (seen x).type ≡ true → apply_unary Negate (seen x).type (seen x).value ≡ reduced_to (seen x).type (neg_ℤ (number_of (seen x).value))
      no_part (v.Bool b) h = refl
      no_part (v.Bit b) h = refl
      no_part (v.Bits b) h = refl
      no_part (v.Word w) h = refl
      no_part (v.Angle a) h = refl
      no_part (v.Whole w) h = refl
      no_part (v.Pi p) h = absurd cc

-- ---- each bit turned over

odd_rest : (m : ℕ) → (1 + 2 * m) % 2 ≡ 1
odd_rest m = omega arith

even_rest : (m : ℕ) → (0 + 2 * m) % 2 ≡ 0
even_rest m = omega arith

odd_half : (m : ℕ) → (1 + 2 * m) / 2 ≡ m
odd_half m = omega arith

even_half : (m : ℕ) → (0 + 2 * m) / 2 ≡ m
even_half m = omega arith

turned_bits : (bits : List Bool) → bits_of (length bits) (negsuc (number_of_bits bits)) ≡ map not bits
turned_bits [] = refl
turned_bits (true ∷ bits) =
    (λ i. int_eq (pos (2 - 1 - odd_rest (number_of_bits bits) i)) (pos 1) ∷ bits_of (length bits) (negsuc (odd_half (number_of_bits bits) i))) ∙ ap (λ r. false ∷ r) (turned_bits bits)
turned_bits (false ∷ bits) =
    (λ i. int_eq (pos (2 - 1 - even_rest (number_of_bits bits) i)) (pos 1) ∷ bits_of (length bits) (negsuc (even_half (number_of_bits bits) i))) ∙ ap (λ r. true ∷ r) (turned_bits bits)

length-map-not : (bits : List Bool) → length (map not bits) ≡ length bits
length-map-not [] = refl
length-map-not (b ∷ bits) = ap suc (length-map-not bits)

before_zero : (m : ℕ) → neg_ℤ (pos m) -ℤ pos 1 ≡ negsuc m
before_zero m = omega (arith, ints)

pub complement_of_bits : (bits others : List Bool) → others ≡ map not bits
    → register_of others ≡ typed (register_of bits).type (or_zero (register_of bits).type (apply_unary Complement (register_of bits).type (register_of bits).value))
complement_of_bits bits others e =
    ap register_of (e ∙ sym (turned_bits bits)) ∙ (λ i. record { type = t.Bits (same i); value = Register (back i) })
  where
    same : length (bits_of (length bits) (negsuc (number_of_bits bits))) ≡ length bits
    same = ap length (turned_bits bits) ∙ length-map-not bits

    back : bits_of (length bits) (negsuc (number_of_bits bits)) ≡ bits_of (length bits) (neg_ℤ (pos (number_of_bits bits)) -ℤ pos 1)
    back = ap (bits_of (length bits)) (sym (before_zero (number_of_bits bits)))
