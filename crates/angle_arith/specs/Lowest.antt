-- The form in lowest terms that each fraction has, with a denominator above 0.
use Rattle.std.specs.Prelude.{◌≡◌, ◌≢◌, ◌↔◌, ℕ, zero, suc, ◌/◌, ◌%◌, ◌^◌, Bool, ◌&&◌, nat_le, int_lt, IsTrue, if◌then◌else◌, pos, neg_ℤ, int_div, unsigned_abs}
use Rattle.angle_arith.specs.Fraction.{Fraction, fraction_of, IsSameFraction, IsLowestTerms, IsInRange}

-- the greatest common divisor, by Euclid's algorithm in at most so many steps
abbrev pub common_divisor_in : ℕ → ℕ → ℕ → ℕ
common_divisor_in zero a b = a
common_divisor_in (suc most) a zero = a
common_divisor_in (suc most) a (suc b) = common_divisor_in most (suc b) (a % suc b)

-- the second number falls in each step, so these steps are enough
abbrev pub greatest_common_divisor : ℕ → ℕ → ℕ
greatest_common_divisor a b = common_divisor_in (suc b) a b

-- a fraction in lowest terms, with a denominator above 0
abbrev pub in_lowest_terms : Fraction → Fraction
in_lowest_terms f = let divisor = greatest_common_divisor (unsigned_abs f.num) (unsigned_abs f.den) in
    fraction_of (int_div (if int_lt f.den (pos 0) then neg_ℤ f.num else f.num) (pos divisor)) (pos (unsigned_abs f.den / divisor))

-- neither number is over 2^62 in size
abbrev pub is_small : Fraction → Bool
is_small f = nat_le (unsigned_abs f.num) (2 ^ 62) && nat_le (unsigned_abs f.den) (2 ^ 62)

-- what `in_lowest_terms` gives of a fraction whose denominator is not 0: it is the same fraction; it stands in lowest terms where it is small, which is where the fraction is in range; and no other fraction does
pub record LowestTerms : Type 0 where
  pub same : (f : Fraction) → f.den ≢ pos 0 → IsSameFraction (in_lowest_terms f) f
  pub stands : (f : Fraction) → f.den ≢ pos 0 → IsTrue (is_small (in_lowest_terms f)) → IsLowestTerms (in_lowest_terms f)
  pub in_range : (f : Fraction) → f.den ≢ pos 0 → IsTrue (is_small (in_lowest_terms f)) ↔ IsInRange f
  pub alone : (f g : Fraction) → f.den ≢ pos 0 → IsLowestTerms g → IsSameFraction g f → g ≡ in_lowest_terms f
