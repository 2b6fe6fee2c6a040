-- The quotient of two integers, brought to lowest terms by their greatest common divisor.
use Rattle.std.proofs.Common.{◌≡◌, ◌≢◌, ℕ, zero, suc, ◌*◌, ◌/◌, ◌^◌, ◌<◌, ◌≤◌, ℤ, pos, negsuc, neg_ℤ, ◌*ℤ◌, unsigned_abs, Bool, true, false, not, int_lt, if◌then◌else◌, refl, sym, ◌∙◌, ap, ap₂, subst, arith, eq-zero-or-pos, ⊎_elim, zero-mul, le_trans}
use Rattle.std.proofs.Math.Nat.{div-mul_cancel, eq_of_mul-eq-mul_right, eq-zero_of_zero-dvd}
use Rattle.std.proofs.lemmas.Int.{ints, unsigned_abs-mul}
use Rattle.std.specs.Int.{IsGcd, ◌∣◌}
use mathlib.Core.Bool.{beq}
use Rattle.angle_arith.specs.Fraction.{Fraction, fraction_of, IsSameFraction, IsLowestTerms, IsInRange, negative_of}
use Rattle.angle_arith.proofs.Divisors.{coprime_from_IsGcd, least_from_coprime}
use Rattle.angle_arith.proofs.Integers.{zero_from_size, same_from_product}

-- the number of size n, below 0 where the test is true
abbrev pub signed : Bool → ℕ → ℤ
signed negative n = if negative then neg_ℤ (pos n) else pos n

-- the quotient of the two numbers is below 0
abbrev pub differ : ℤ → ℤ → Bool
differ num den = not (beq (int_lt num (pos 0)) (int_lt den (pos 0)))

pub unsigned_abs-signed : (negative : Bool) (n : ℕ) → unsigned_abs (signed negative n) ≡ n
unsigned_abs-signed true zero = refl
unsigned_abs-signed true (suc n) = refl
unsigned_abs-signed false n = refl

-- the same sizes up to a factor, and the sign of the quotient, make the same fraction
same_from_sizes : (num den : ℤ) (n m g : ℕ) → unsigned_abs num ≡ n * g → unsigned_abs den ≡ m * g → signed (differ num den) n *ℤ den ≡ num *ℤ pos m
same_from_sizes num den n m g en em = by num den n en em (int_lt num (pos 0)) (int_lt den (pos 0)) refl refl
  where
    by : (num den : ℤ) (n : ℕ) → unsigned_abs num ≡ n * g → unsigned_abs den ≡ m * g → (s t : Bool) → int_lt num (pos 0) ≡ s → int_lt den (pos 0) ≡ t → signed (not (beq s t)) n *ℤ den ≡ num *ℤ pos m
    by (pos a) (pos b) n en em false false es et = omega (arith, ints, ap (λ x. n * x) em, ap (λ x. x * m) en)
    by (negsuc a) (negsuc b) n en em true true es et = omega (arith, ints, ap (λ x. n * x) em, ap (λ x. x * m) en)
    by (pos a) (negsuc b) zero en em false true es et = omega (arith, ints, ap (λ x. x * m) en)
    by (pos a) (negsuc b) (suc n) en em false true es et = omega (arith, ints, ap (λ x. suc n * x) em, ap (λ x. x * m) en)
    by (negsuc a) (pos b) zero en em true false es et = omega (arith, ints, ap (λ x. x * m) en)
    by (negsuc a) (pos b) (suc n) en em true false es et = omega (arith, ints, ap (λ x. suc n * x) em, ap (λ x. x * m) en)
    by (pos a) den n en em true t es et = absurd (omega (arith, ints))
    by (negsuc a) den n en em false t es et = absurd (omega (arith, ints))
    by (pos a) (pos b) n en em false true es et = absurd (omega (arith, ints))
    by (pos a) (negsuc b) n en em false false es et = absurd (omega (arith, ints))
    by (negsuc a) (pos b) n en em true true es et = absurd (omega (arith, ints))
    by (negsuc a) (negsuc b) n en em true false es et = absurd (omega (arith, ints))

-- a and b are the sizes of the two numbers, and g is their greatest common divisor
module _ (num den : ℤ) (a b g : ℕ) (a_is : a ≡ unsigned_abs num) (b_is : b ≡ unsigned_abs den) (nonzero : den ≢ pos 0) (common : IsGcd a b g) where
  pub some_divisor : 0 < g
  some_divisor = ⊎_elim (λ none. absurd (nonzero (zero_from_size den (sym b_is ∙ eq-zero_of_zero-dvd (subst (λ x. x ∣ b) none common.1))))) (λ some. some) (eq-zero-or-pos g)

  num_whole : a / g * g ≡ a
  num_whole = div-mul_cancel g common.0

  den_whole : b / g * g ≡ b
  den_whole = div-mul_cancel g common.1

  -- the two quotients have no divisor in common
  coprime : IsGcd (a / g) (b / g) 1
  coprime = coprime_from_IsGcd (a / g) (b / g) g some_divisor (subst (λ x. IsGcd x (b / g * g) g) (sym num_whole) (subst (λ x. IsGcd a x g) (sym den_whole) common))

  den_some : 0 < b / g
  den_some = ⊎_elim (λ none. absurd (nonzero (zero_from_size den (sym b_is ∙ sym den_whole ∙ ap (λ x. x * g) none ∙ zero-mul g)))) (λ some. some) (eq-zero-or-pos (b / g))

  pub same : IsSameFraction (fraction_of (signed (differ num den) (a / g)) (pos (b / g))) (fraction_of num den)
  same = same_from_sizes num den (a / g) (b / g) g (sym a_is ∙ sym num_whole) (sym b_is ∙ sym den_whole)

  pub lowest : a / g ≤ 2 ^ 62 → b / g ≤ 2 ^ 62 → IsLowestTerms (fraction_of (signed (differ num den) (a / g)) (pos (b / g)))
  lowest num_size den_size =
      let size = sym (unsigned_abs-signed (differ num den) (a / g)) in
      let some = den_some in
      record {
        small = record { positive = omega (arith, ints); num_size = subst (λ x. x ≤ 2 ^ 62) size num_size; den_size = den_size };
        coprime = subst (λ x. IsGcd x (b / g) 1) size coprime;
      }

  -- if the fraction is in range, so are the two quotients
  pub sizes_from_range : IsInRange (fraction_of num den) → (a / g ≤ 2 ^ 62) × (b / g ≤ 2 ^ 62)
  sizes_from_range (f, small, e) =
      let p = unsigned_abs f.num in
      let q = unsigned_abs f.den in
      let crossed : p * unsigned_abs den ≡ unsigned_abs num * q = sym (unsigned_abs-mul f.num den) ∙ ap unsigned_abs e ∙ unsigned_abs-mul num f.den in
      let den_parts = ap (λ x. p * x) (den_whole ∙ b_is) in
      let num_parts = ap (λ x. x * q) (num_whole ∙ a_is) in
      let lowest_cross = eq_of_mul-eq-mul_right g some_divisor (p * (b / g)) (a / g * q) (omega arith) in
      let positive = small.positive in
      let least = least_from_coprime (a / g) (b / g) p q (omega (arith, ints)) coprime lowest_cross in
      (le_trans least.0 small.num_size, le_trans least.1 small.den_size)

-- a fraction has one form in lowest terms
pub unique : (f g : Fraction) → IsLowestTerms f → IsLowestTerms g → IsSameFraction f g → f ≡ g
unique f g f_lowest g_lowest e =
    let crossed : unsigned_abs f.num * unsigned_abs g.den ≡ unsigned_abs g.num * unsigned_abs f.den = sym (unsigned_abs-mul f.num g.den) ∙ ap unsigned_abs e ∙ unsigned_abs-mul g.num f.den in
    let f_positive = f_lowest.small.positive in
    let g_positive = g_lowest.small.positive in
    let f_least = least_from_coprime (unsigned_abs f.num) (unsigned_abs f.den) (unsigned_abs g.num) (unsigned_abs g.den) (omega (arith, ints)) f_lowest.coprime (sym crossed) in
    let g_least = least_from_coprime (unsigned_abs g.num) (unsigned_abs g.den) (unsigned_abs f.num) (unsigned_abs f.den) (omega (arith, ints)) g_lowest.coprime crossed in
    let same_den : f.den ≡ g.den = omega (arith, ints) in
    let same_num = same_from_product f.num g.num f.den f_positive (ap (λ d. f.num *ℤ d) same_den ∙ e) in
    ap₂ fraction_of same_num same_den

-- the negative of a fraction in lowest terms is in lowest terms
pub lowest_negative : (f : Fraction) → IsLowestTerms f → IsLowestTerms (negative_of f)
lowest_negative f h =
    let size : unsigned_abs f.num ≡ unsigned_abs (neg_ℤ f.num) = omega (arith, ints) in
    record {
      small = record { positive = h.small.positive; num_size = subst (λ x. x ≤ 2 ^ 62) size h.small.num_size; den_size = h.small.den_size };
      coprime = subst (λ x. IsGcd x (unsigned_abs f.den) 1) size h.coprime;
    }
