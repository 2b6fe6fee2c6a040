-- Fractions of pi as units.
use Rattle.std.proofs.Common.{◌≡◌, ℕ, suc, ◌+◌, ◌-◌, ◌*◌, ◌/◌, ◌%◌, ◌^◌, ◌<◌, ◌≤◌, Bool, true, false, cond, nat_le, Some, None, ℤ, pos, negsuc, neg_ℤ, ◌+ℤ◌, ◌*ℤ◌, ◌≤ℤ◌, ◌<ℤ◌, Ok, FitsSigned, refl, sym, ap, subst, ◌∙◌, arith}
use Rattle.std.specs.Int.RustNames.{unsigned_abs, int_div, int_rem}
use Rattle.std.specs.Ordering.{int_eq}
use Rattle.std.proofs.Math.Nat.{mod-eq_of_lt, suc-mul}
use Rattle.std.proofs.lemmas.Bool.Decides.{Decides-int_eq}
use Rattle.std.proofs.lemmas.Bool.{le-leb, lt-leb}
use Rattle.std.proofs.lemmas.Int.{ints, quot-rem, to_z-of_z, to_z_pos, fits_signed_from_abs}
use Rattle.std.proofs.lemmas.Nat.{div-mul-add, div-add-mod', pow-add, pow_pos}
use Rattle.std.specs.Int.{w64, w128}
use mir.Val.{to_z, of_z}
use Rattle.qasm_types.specs.Types.{IsWholeConstant}
use Rattle.qq_base.specs.declared.refusal.Span.{Span}
use Rattle.qq_base.specs.declared.rule.Rule.TheVariants.{NotDyadic, TurnRange}
use Rattle.angle_arith.specs.Fraction.{Fraction, IsWhole, IsWholeNumber, parts_of}
use Rattle.qasm_types.specs.Values.{whole_of}
use Rattle.const_eval.specs.Refusing.{refused, where_allowed}
use Rattle.gate_arguments.specs.Arguments.{limited, units_of_part}

times-one : (x : ℤ) → x *ℤ pos 1 ≡ x
times-one x = omega (arith, ints)

+ℤ-zero : (x : ℤ) → x +ℤ pos 0 ≡ x
+ℤ-zero x = omega (arith, ints)

quotient_of_product : (a d : ℕ) → 0 < d → a * d / d ≡ a
quotient_of_product a d h = let e : a * d ≡ a * d + 0 = omega arith in ap (λ n. n / d) e ∙ div-mul-add a d 0 h

rest_of_product : (a d : ℕ) → 0 < d → (a * d) % d ≡ 0
rest_of_product a d h = omega (arith, div-add-mod' (a * d) d, ap (λ n. n * d) (quotient_of_product a d h))

multiple : (d : ℕ) (z num : ℤ) → 0 < d → num ≡ z *ℤ pos d → (int_rem num (pos d) ≡ pos 0) × (int_div num (pos d) ≡ z)
multiple d (pos a) num h e =
    let P : ℤ → Type 0 = λ x. (int_rem x (pos d) ≡ pos 0) × (int_div x (pos d) ≡ pos a) in
    subst P (sym e) (ap pos (rest_of_product a d h), ap pos (quotient_of_product a d h))
multiple d (negsuc a) num h e =
    let m = suc a * d - 1 in
    let size : suc a * d ≡ suc m = omega (arith, suc-mul a d) in
    let P : ℤ → Type 0 = λ x. (int_rem x (pos d) ≡ pos 0) × (int_div x (pos d) ≡ negsuc a) in
    let same : num ≡ negsuc m = e ∙ ap (λ x. neg_ℤ (pos x)) size in
    subst P (sym same) (ap (λ x. neg_ℤ (pos (x % d))) (sym size) ∙ ap (λ x. neg_ℤ (pos x)) (rest_of_product (suc a) d h), ap (λ x. neg_ℤ (pos (x / d))) (sym size) ∙ ap (λ x. neg_ℤ (pos x)) (quotient_of_product (suc a) d h))

doubled_positive : (x : ℤ) → pos 1 ≤ℤ x → (d : ℕ) × (0 < d) × (x *ℤ pos 2 ≡ pos d)
doubled_positive (pos k) h = (k * 2, omega (arith, ints), refl)
doubled_positive (negsuc k) h = absurd h.le

-- parts that are a whole number
whole_parts : (f : Fraction) (z : ℤ) → pos 1 ≤ℤ f.den → IsWholeNumber (parts_of f 32) z → whole_of (parts_of f 32) ≡ Some z
whole_parts f z positive h =
    let num = f.num *ℤ pos (2 ^ 32) in
    let den = f.den *ℤ pos 2 in
    let d = doubled_positive f.den positive in
    let product : num ≡ z *ℤ pos d.0 = sym (times-one num) ∙ h ∙ ap (λ x. z *ℤ x) d.2 in
    let facts = multiple d.0 z num d.1 product in
    let rest : int_rem num den ≡ pos 0 = ap (int_rem num) d.2 ∙ facts.0 in
    let quotient : int_div num den ≡ z = ap (int_div num) d.2 ∙ facts.1 in
    (λ i. cond (int_eq (rest i) (pos 0)) (Some (quotient i)) None)

-- parts that are none
no_whole_parts : (f : Fraction) → (IsWhole (parts_of f 32) → ⊥) → whole_of (parts_of f 32) ≡ None
no_whole_parts f none = by (int_eq (int_rem num den) (pos 0)) refl
  where
    num : ℤ
    num = f.num *ℤ pos (2 ^ 32)

    den : ℤ
    den = f.den *ℤ pos 2

    whole : int_eq (int_rem num den) (pos 0) ≡ true → IsWhole (parts_of f 32)
    whole e = (int_div num den, times-one num ∙ sym (quot-rem num den) ∙ ap (λ x. int_div num den *ℤ den +ℤ x) ((Decides-int_eq (int_rem num den) (pos 0)).0 e) ∙ +ℤ-zero (int_div num den *ℤ den))

    by : (b : Bool) → int_eq (int_rem num den) (pos 0) ≡ b → cond (int_eq (int_rem num den) (pos 0)) (Some (int_div num den)) None ≡ None
    by true e = absurd (none (whole e))
    by false e = ap (λ b. cond b (Some (int_div num den)) None) e

-- ---- units

within : (place : Span) (z : ℤ) (t : Bool) → nat_le (unsigned_abs z) (2 ^ 40) ≡ t → where_allowed t TurnRange place (Ok z) ≡ limited place (Some z)
within place z t e = ap (λ b. where_allowed b TurnRange place (Ok z)) (sym e)

pub some_units : (f : Fraction) (place : Span) (z : ℤ) → pos 1 ≤ℤ f.den → IsWholeNumber (parts_of f 32) z → unsigned_abs z ≤ 2 ^ 40 → units_of_part place f ≡ Ok z
some_units f place z positive h le = ap (limited place) (whole_parts f z positive h) ∙ sym (within place z true (le-leb (unsigned_abs z) (2 ^ 40) le))

pub too_many_units : (f : Fraction) (place : Span) (z : ℤ) → pos 1 ≤ℤ f.den → IsWholeNumber (parts_of f 32) z → 2 ^ 40 < unsigned_abs z → units_of_part place f ≡ refused TurnRange place
too_many_units f place z positive h lt = ap (limited place) (whole_parts f z positive h) ∙ sym (within place z false (lt-leb (unsigned_abs z) (2 ^ 40) lt))

pub no_units : (f : Fraction) (place : Span) → (IsWhole (parts_of f 32) → ⊥) → units_of_part place f ≡ refused NotDyadic place
no_units f place none = ap (limited place) (no_whole_parts f none)

-- ---- angles

product_below : (a p q : ℕ) → a < p → 0 < q → a * q < p * q
product_below a p q h g = grind (arith)

angle_below : (count w : ℕ) → count < 2 ^ w → w ≤ 32 → count * 2 ^ (32 - w) < 4294967296
angle_below count w h l =
    let e : 32 ≡ w + (32 - w) = omega arith in
    let whole : 4294967296 ≡ 2 ^ w * 2 ^ (32 - w) = ap (λ x. 2 ^ x) e ∙ pow-add 2 w (32 - w) in
    omega (arith, whole, product_below count (2 ^ w) (2 ^ (32 - w)) h (pow_pos (32 - w)))

pub angle_kept : (count w : ℕ) → count < 2 ^ w → w ≤ 32 → count * 2 ^ (32 - w) % 18446744073709551616 ≡ count * 2 ^ (32 - w)
angle_kept count w h l = mod-eq_of_lt (omega (arith, angle_below count w h l))

pub angle_read : (count w : ℕ) → count < 2 ^ w → w ≤ 32 → to_z w64 (count * 2 ^ (32 - w) % 18446744073709551616) ≡ pos (count * 2 ^ (32 - w))
angle_read count w h l = to_z_pos w64 (count * 2 ^ (32 - w) % 18446744073709551616) (omega (arith, angle_kept count w h l, angle_below count w h l)) ∙ ap pos (angle_kept count w h l)

pub angle_fits : (count w : ℕ) → count < 2 ^ w → w ≤ 32 → FitsSigned w64 (pos (count * 2 ^ (32 - w) % 18446744073709551616))
angle_fits count w h l = record { sfits = omega (arith, angle_kept count w h l, angle_below count w h l) }

-- ---- numbers of the code

pub same_i64 : (z : ℤ) → unsigned_abs z < 2 ^ 63 → to_z w64 (of_z w64 z) ≡ z
same_i64 z h = to_z-of_z w64 z (fits_signed_from_abs w64 z h)

pub same_units : (z : ℤ) → unsigned_abs z ≤ 2 ^ 40 → to_z w64 (of_z w64 z) ≡ z
same_units z h = same_i64 z (omega arith)

pub same_divisor : (z : ℤ) → pos 1 ≤ℤ z → z <ℤ pos (2 ^ 63) → to_z w64 (of_z w64 z) ≡ z
same_divisor (pos a) h l = same_i64 (pos a) (omega (arith, ints))
same_divisor (negsuc a) h l = absurd h.le

whole_size : (z : ℤ) → IsWholeConstant z → unsigned_abs z < 2 ^ 127
whole_size (pos a) h = omega (arith, ints, h.1)
whole_size (negsuc a) h = omega (arith, ints, h.0)

pub same_whole : (z : ℤ) → IsWholeConstant z → to_z w128 (of_z w128 z) ≡ z
same_whole z h = to_z-of_z w128 z (fits_signed_from_abs w128 z (whole_size z h))
