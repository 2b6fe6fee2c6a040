-- Fractions of whole numbers without bound, and what a fraction of pi is as parts of a turn. The fraction p / q of pi is the angle p / q * pi.
use Rattle.std.specs.Prelude.{◌≡◌, ℕ, ◌^◌, ◌<◌, ◌≤◌, ℤ, pos, neg_ℤ, ◌+ℤ◌, ◌-ℤ◌, ◌*ℤ◌, ◌≤ℤ◌, ◌<ℤ◌, unsigned_abs}
use Rattle.std.specs.Int.{IsGcd, int_rem_euclid}

pub record Fraction : Type 0 where
  pub num : ℤ
  pub den : ℤ

abbrev pub fraction_of : ℤ → ℤ → Fraction
fraction_of num den = record { num = num; den = den }

-- ---- equality and order

-- fractions are the same where their cross products are equal
abbrev pub IsSameFraction : Fraction → Fraction → Type 0
IsSameFraction f g = f.num *ℤ g.den ≡ g.num *ℤ f.den

-- f is less than g, where both denominators are above 0
abbrev pub IsBelow : Fraction → Fraction → Type 0
IsBelow f g = (f.num *ℤ g.den) <ℤ (g.num *ℤ f.den)

-- ---- lowest terms and the range

-- the denominator is at least 1, and neither number is over 2^62 in size
pub record IsSmall (f : Fraction) : Type 0 where
  pub positive : pos 1 ≤ℤ f.den
  pub num_size : unsigned_abs f.num ≤ 2 ^ 62
  pub den_size : unsigned_abs f.den ≤ 2 ^ 62

-- f is small, and its numbers have no common divisor above 1
pub record IsLowestTerms (f : Fraction) : Type 0 where
  pub small : IsSmall f
  pub coprime : IsGcd (unsigned_abs f.num) (unsigned_abs f.den) 1

-- some small fraction is the same as f
abbrev pub IsInRange : Fraction → Type 0
IsInRange f = (g : Fraction) × IsSmall g × IsSameFraction g f

-- ---- arithmetic

abbrev pub negative_of : Fraction → Fraction
negative_of f = fraction_of (neg_ℤ f.num) f.den

abbrev pub sum_of : Fraction → Fraction → Fraction
sum_of f g = fraction_of (f.num *ℤ g.den +ℤ g.num *ℤ f.den) (f.den *ℤ g.den)

abbrev pub difference_of : Fraction → Fraction → Fraction
difference_of f g = fraction_of (f.num *ℤ g.den -ℤ g.num *ℤ f.den) (f.den *ℤ g.den)

abbrev pub product_of : Fraction → ℤ → Fraction
product_of f k = fraction_of (f.num *ℤ k) f.den

abbrev pub quotient_of : Fraction → ℤ → Fraction
quotient_of f k = fraction_of f.num (f.den *ℤ k)

-- ---- parts of a turn

-- f is the whole number z
abbrev pub IsWholeNumber : Fraction → ℤ → Type 0
IsWholeNumber f z = IsSameFraction f (fraction_of z (pos 1))

-- f is some whole number
abbrev pub IsWhole : Fraction → Type 0
IsWhole f = (z : ℤ) × IsWholeNumber f z

-- f is a whole number over the limit in size
abbrev pub IsWholeBeyond : Fraction → ℕ → Type 0
IsWholeBeyond f limit = (z : ℤ) × IsWholeNumber f z × limit < unsigned_abs z

-- f of pi, counted in parts of which a turn has 2^width: a turn is 2 pi
abbrev pub parts_of : Fraction → ℕ → Fraction
parts_of f width = fraction_of (f.num *ℤ pos (2 ^ width)) (f.den *ℤ pos 2)

-- c is what is left of f where whole turns of 2^width are taken away
abbrev pub IsReducedCount : Fraction → ℕ → ℕ → Type 0
IsReducedCount f width c = (z : ℤ) × IsWholeNumber f z × (pos c ≡ int_rem_euclid z (pos (2 ^ width)))
