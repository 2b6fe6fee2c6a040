-- The form in lowest terms of a fraction whose denominator is not 0.
use Rattle.std.proofs.Common.{◌≡◌, ◌≢◌, ℕ, zero, suc, ◌/◌, ◌%◌, ◌^◌, ◌<◌, ◌≤◌, ◌↔◌, false, nat_le, nat_lt, int_lt, IsTrue, if◌then◌else◌, ℤ, pos, negsuc, neg_ℤ, ◌*ℤ◌, int_div, unsigned_abs, refl, sym, ◌∙◌, ap, subst, arith}
use Rattle.std.proofs.Math.Nat.{zero-div}
use Rattle.std.proofs.lemmas.Bool.{leb-true, le-leb}
use Rattle.std.proofs.lemmas.Bool.Decides.{Decides-and}
use Rattle.std.specs.Bool.{Decides}
use Rattle.std.proofs.lemmas.Nat.Gcd.{IsGcd-from_zero, IsGcd-from_mod}
use Rattle.std.proofs.lemmas.Int.{ints}
use Rattle.std.specs.Int.{IsGcd}
use Rattle.angle_arith.specs.Fraction.{Fraction, fraction_of, IsSameFraction, IsLowestTerms, IsInRange}
use Rattle.angle_arith.specs.Lowest.{common_divisor_in, greatest_common_divisor, in_lowest_terms, is_small}
use Rattle.angle_arith.proofs.Integers.{same_from_product, mul_int_right_comm}
use Rattle.angle_arith.proofs.LowestTerms as quotient
use Rattle.angle_arith.proofs.LowestTerms.{signed, differ, unsigned_abs-signed}

common_divisor_is : (most a b : ℕ) → b < most → IsGcd a b (common_divisor_in most a b)
common_divisor_is zero a b lt = absurd (omega arith)
common_divisor_is (suc most) a zero lt = IsGcd-from_zero a zero refl
common_divisor_is (suc most) a (suc b) lt =
    let rest : a % suc b < suc b = omega arith in
    IsGcd-from_mod a (suc b) (common_divisor_in most (suc b) (a % suc b)) (common_divisor_is most (suc b) (a % suc b) (omega arith))

pub greatest_is : (a b : ℕ) → IsGcd a b (greatest_common_divisor a b)
greatest_is a b = common_divisor_is (suc b) a b (omega arith)

not_below_zero : (n : ℕ) → nat_lt n 0 ≡ false
not_below_zero n = grind arith

-- a number divided towards 0 has the quotient of the sizes as its size
quotient_of_sizes : (num den : ℤ) (g : ℕ) → int_div (if int_lt den (pos 0) then neg_ℤ num else num) (pos g) ≡ signed (differ num den) (unsigned_abs num / g)
quotient_of_sizes (pos a) (pos b) g = rw (not_below_zero b, not_below_zero a) refl
quotient_of_sizes (negsuc a) (pos b) g = rw (not_below_zero b) refl
quotient_of_sizes (pos zero) (negsuc b) g = ap (λ (n : ℕ). pos n) (zero-div g) ∙ sym (ap (λ (n : ℕ). neg_ℤ (pos n)) (zero-div g))
quotient_of_sizes (pos (suc a)) (negsuc b) g = rw (not_below_zero (suc a)) refl
quotient_of_sizes (negsuc a) (negsuc b) g = refl

both_small : (f : Fraction) → Decides (is_small f) ((unsigned_abs f.num ≤ 2 ^ 62) × (unsigned_abs f.den ≤ 2 ^ 62))
both_small f =
    Decides-and (nat_le (unsigned_abs f.num) (2 ^ 62)) (nat_le (unsigned_abs f.den) (2 ^ 62))
    (leb-true (unsigned_abs f.num) (2 ^ 62), le-leb (unsigned_abs f.num) (2 ^ 62))
    (leb-true (unsigned_abs f.den) (2 ^ 62), le-leb (unsigned_abs f.den) (2 ^ 62))

same_from_multiple : (x y d : ℤ) → d ≢ pos 0 → x *ℤ d ≡ y *ℤ d → x ≡ y
same_from_multiple x y (pos zero) nonzero e = absurd (nonzero refl)
same_from_multiple x y (pos (suc d)) nonzero e = same_from_product x y (pos (suc d)) (omega (arith, ints)) e
same_from_multiple x y (negsuc d) nonzero e = same_from_product x y (pos (suc d)) (omega (arith, ints)) (omega (arith, ints))

-- two fractions that are the same as a third are the same
same_from_third : (f g h : Fraction) → f.den ≢ pos 0 → IsSameFraction g f → IsSameFraction h f → IsSameFraction g h
same_from_third f g h nonzero e k =
    same_from_multiple (g.num *ℤ h.den) (h.num *ℤ g.den) f.den nonzero (
    mul_int_right_comm g.num h.den f.den
    ∙ ap (λ (z : ℤ). z *ℤ h.den) e
    ∙ mul_int_right_comm f.num g.den h.den
    ∙ sym (ap (λ (z : ℤ). z *ℤ g.den) k)
    ∙ mul_int_right_comm h.num f.den g.den)

module _ (f : Fraction) (nonzero : f.den ≢ pos 0) where
  abbrev divisor : ℕ
  divisor = greatest_common_divisor (unsigned_abs f.num) (unsigned_abs f.den)

  common : IsGcd (unsigned_abs f.num) (unsigned_abs f.den) divisor
  common = greatest_is (unsigned_abs f.num) (unsigned_abs f.den)

  -- the form, by the sizes of the two numbers
  abbrev form : Fraction
  form = fraction_of (signed (differ f.num f.den) (unsigned_abs f.num / divisor)) (pos (unsigned_abs f.den / divisor))

  form_is : form ≡ in_lowest_terms f
  form_is = ap (λ (n : ℤ). fraction_of n (pos (unsigned_abs f.den / divisor))) (sym (quotient_of_sizes f.num f.den divisor))

  num_size : unsigned_abs (in_lowest_terms f).num ≡ unsigned_abs f.num / divisor
  num_size = ap unsigned_abs (quotient_of_sizes f.num f.den divisor) ∙ unsigned_abs-signed (differ f.num f.den) (unsigned_abs f.num / divisor)

  pub same : IsSameFraction (in_lowest_terms f) f
  same = let P : Fraction → Type 0 = λ g. IsSameFraction g f in subst P form_is (quotient.same f.num f.den (unsigned_abs f.num) (unsigned_abs f.den) divisor refl refl nonzero common)

  pub stands : IsTrue (is_small (in_lowest_terms f)) → IsLowestTerms (in_lowest_terms f)
  stands small =
      let sizes = (both_small (in_lowest_terms f)).0 small in
      let P : Fraction → Type 0 = λ g. IsLowestTerms g in
      subst P form_is (quotient.lowest f.num f.den (unsigned_abs f.num) (unsigned_abs f.den) divisor refl refl nonzero common (subst (λ n. n ≤ 2 ^ 62) num_size sizes.0) sizes.1)

  pub in_range : IsTrue (is_small (in_lowest_terms f)) ↔ IsInRange f
  in_range = (
    λ small. (in_lowest_terms f, (stands small).small, same),
    λ range.
        let sizes = quotient.sizes_from_range f.num f.den (unsigned_abs f.num) (unsigned_abs f.den) divisor refl refl nonzero common range in
        (both_small (in_lowest_terms f)).1 (subst (λ n. n ≤ 2 ^ 62) (sym num_size) sizes.0, sizes.1),
  )

  pub alone : (g : Fraction) → IsLowestTerms g → IsSameFraction g f → g ≡ in_lowest_terms f
  alone g g_lowest e =
      let mine = stands (in_range.1 (g, g_lowest.small, e)) in
      quotient.unique g (in_lowest_terms f) g_lowest mine (same_from_third f g (in_lowest_terms f) nonzero e same)
