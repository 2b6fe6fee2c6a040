-- The range of whole constants, and powers in it.
use Rattle.std.proofs.Common.{◌≡◌, ◌≢◌, ◌⊎◌, ℕ, zero, suc, ◌+◌, ◌-◌, ◌*◌, ◌/◌, ◌%◌, ◌^◌, ◌<◌, ◌≤◌, false, cond, Some, None, ℤ, pos, negsuc, ◌*ℤ◌, ◌≤ℤ◌, refl, sym, ap, ◌∙◌, inl, inr, ⊎_elim, arith}
use Rattle.std.specs.Int.{int_div_euclid}
use Rattle.std.specs.Int.RustNames.{unsigned_abs, int_lt}
use Rattle.std.specs.Option.{option_and_then}
use Rattle.std.proofs.Math.Nat.{div-eq_of_lt, pow-succ', pow-zero, mul-suc, suc-mul}
use Rattle.std.proofs.lemmas.Bool.{cases_lt}
use Rattle.std.proofs.Math.Pow.{pow_mono}
use Rattle.std.proofs.lemmas.Int.{ints, unsigned_abs-mul}
use borrow.Author.Differences.{up, down}
use Rattle.qasm_types.specs.Types.{IsWholeConstant}
use Rattle.qasm_types.specs.Values.{power, where_amount}
use Rattle.const_eval.specs.Numbered.{in_range}

*ℤ_assoc : (a b c : ℤ) → (a *ℤ b) *ℤ c ≡ a *ℤ (b *ℤ c)
*ℤ_assoc a b c =
    let e1 : up (a *ℤ b) + (up a * down b + down a * up b) ≡ down (a *ℤ b) + (up a * up b + down a * down b) = omega (arith, ints) in
    let e2 : up (b *ℤ c) + (up b * down c + down b * up c) ≡ down (b *ℤ c) + (up b * up c + down b * down c) = omega (arith, ints) in
    let f1 = ap (λ x. x * up c) e1 in
    let f2 = ap (λ x. x * down c) e1 in
    let f3 = ap (λ x. up a * x) e2 in
    let f4 = ap (λ x. down a * x) e2 in
    omega (arith, ints)

pub in_range-constant : (z : ℤ) → IsWholeConstant z → in_range z ≡ Some z
in_range-constant z h = grind (arith, ints)

pub in_range-beyond : (z : ℤ) → 2 ^ 64 ≤ unsigned_abs z → in_range z ≡ None
in_range-beyond z h = grind (arith, ints)

pub constant_cases : (z : ℤ) → (in_range z ≡ Some z × IsWholeConstant z) ⊎ (in_range z ≡ None × 2 ^ 63 < unsigned_abs z)
constant_cases z = grind (arith, ints)

pub unsigned_abs-power : (x : ℤ) (n : ℕ) → unsigned_abs (power x n) ≡ unsigned_abs x ^ n
unsigned_abs-power x zero = omega (arith, pow-zero (unsigned_abs x))
unsigned_abs-power x (suc n) = unsigned_abs-mul x (power x n) ∙ ap (λ m. unsigned_abs x * m) (unsigned_abs-power x n) ∙ sym (pow-succ' (unsigned_abs x) n)

pub power-square : (x : ℤ) (n : ℕ) → power x (2 * n) ≡ power (x *ℤ x) n
power-square x zero = refl
power-square x (suc n) =
    let e : 2 * suc n ≡ suc (suc (2 * n)) = omega arith in
    ap (power x) e ∙ sym (*ℤ_assoc x x (power x (2 * n))) ∙ ap (λ m. (x *ℤ x) *ℤ m) (power-square x n)

-- ---- what is out of range stays so

below_product : (b m : ℕ) → 1 ≤ m → b ≤ b * m
below_product b zero h = absurd (omega arith)
below_product b (suc m) h = omega (arith, mul-suc b m)

pow_from_one : (b n : ℕ) → 1 ≤ b → 1 ≤ b ^ n
pow_from_one b zero h = omega (arith, pow-zero b)
pow_from_one b (suc n) h = omega (arith, pow-succ' b n, below_product b (b ^ n) (pow_from_one b n h))

pow-beyond : (b n : ℕ) → 1 ≤ n → 2 ^ 64 ≤ b → 2 ^ 64 ≤ b ^ n
pow-beyond b zero h g = absurd (omega arith)
pow-beyond b (suc n) h g = omega (arith, pow-succ' b n, below_product b (b ^ n) (pow_from_one b n (omega arith)))

square_positive : (x : ℤ) → x *ℤ x ≡ pos (unsigned_abs x * unsigned_abs x)
square_positive (pos n) = refl
square_positive (negsuc n) = refl

positive_beyond : (z : ℤ) (m : ℕ) → z ≡ pos m → in_range z ≡ None → 2 ^ 64 ≤ unsigned_abs z
positive_beyond (pos k) m p none = grind (arith, ints)
positive_beyond (negsuc k) m p none = absurd cc

-- an even power of a number whose square is out of range is out of range
pub power-even_beyond : (x : ℤ) (n : ℕ) → 1 ≤ n → in_range (x *ℤ x) ≡ None → in_range (power x (2 * n)) ≡ None
power-even_beyond x n h e =
    let square = positive_beyond (x *ℤ x) (unsigned_abs x * unsigned_abs x) (square_positive x) e in
    in_range-beyond (power x (2 * n)) (omega (arith, ap unsigned_abs (power-square x n), unsigned_abs-power (x *ℤ x) n, pow-beyond (unsigned_abs (x *ℤ x)) n h square))

-- a further power of a number is out of range where one is
small_pow : (b n : ℕ) → b ≤ 1 → b ^ n ≤ 1
small_pow b zero h = omega (arith, pow-zero b)
small_pow zero (suc n) h = omega (arith, pow-succ' 0 n)
small_pow (suc zero) (suc n) h = omega (arith, pow-succ' 1 n, small_pow 1 n h)
small_pow (suc (suc b)) (suc n) h = absurd (omega arith)

doubled : (b m : ℕ) → 2 ≤ b → 2 * m ≤ b * m
doubled zero m h = absurd (omega arith)
doubled (suc zero) m h = absurd (omega arith)
doubled (suc (suc b)) m h = omega (arith, suc-mul (suc b) m, suc-mul b m)

pub power-odd_beyond : (x : ℤ) (n : ℕ) → in_range (power x n) ≡ None → in_range (power x (suc n)) ≡ None
power-odd_beyond x n e = by (cases_lt (unsigned_abs x) 2)
  where
    large : 2 ^ 63 < unsigned_abs (power x n)
    large = ⊎_elim (λ h. absurd (let d = h.0 in cc)) (λ h. h.1) (constant_cases (power x n))

    by : (unsigned_abs x < 2) ⊎ (2 ≤ unsigned_abs x) → in_range (power x (suc n)) ≡ None
    by (inl h) = absurd (omega (arith, large, unsigned_abs-power x n, small_pow (unsigned_abs x) n (omega arith)))
    by (inr h) = in_range-beyond (power x (suc n)) (omega (arith, large, unsigned_abs-mul x (power x n), doubled (unsigned_abs x) (unsigned_abs (power x n)) h))

-- ---- shifts by large amounts

-- a number other than 0 that is shifted to the left by 64 and more is out of range
pub shifted_beyond : (x : ℤ) (k : ℕ) → x ≢ pos 0 → 64 ≤ k → in_range (x *ℤ pos (2 ^ k)) ≡ None
shifted_beyond x k h l =
    in_range-beyond (x *ℤ pos (2 ^ k)) (omega (arith, unsigned_abs-mul x (pos (2 ^ k)), pow_mono l, at_least (unsigned_abs x) (2 ^ k) (positive x h)))
  where
    positive : (z : ℤ) → z ≢ pos 0 → 1 ≤ unsigned_abs z
    positive (pos zero) g = absurd (g refl)
    positive (pos (suc n)) g = omega arith
    positive (negsuc n) g = omega arith

    at_least : (b m : ℕ) → 1 ≤ b → m ≤ b * m
    at_least zero m g = absurd (omega arith)
    at_least (suc b) m g = omega (arith, suc-mul b m)

div-below : (m d : ℕ) → m < d → m / d ≡ 0
div-below m d h = div-eq_of_lt h

-- a number that is shifted to the right by as many places as it has digits is 0 or -1
pub shifted_out : (m k j : ℕ) → m < 2 ^ j → j ≤ k → m / 2 ^ k ≡ m / 2 ^ j
shifted_out m k j h l = div-below m (2 ^ k) (omega (arith, pow_mono l)) ∙ sym (div-below m (2 ^ j) h)

pub where_amount-beyond : (x amount : ℤ) → x ≢ pos 0 → pos 64 ≤ℤ amount → option_and_then in_range (where_amount amount (x *ℤ pos (2 ^ unsigned_abs amount))) ≡ None
where_amount-beyond x amount h l =
    let e : int_lt amount (pos 0) ≡ false = grind (arith, ints) in
    ap (λ b. option_and_then in_range (cond b None (Some (x *ℤ pos (2 ^ unsigned_abs amount))))) e ∙ shifted_beyond x (unsigned_abs amount) h (omega (arith, ints))

-- a shift to the right by 64 and more leaves what one by 64 leaves
pub shifted_right-most : (x : ℤ) (k : ℕ) → IsWholeConstant x → 64 ≤ k → int_div_euclid x (pos (2 ^ 64)) ≡ int_div_euclid x (pos (2 ^ k))
shifted_right-most (pos m) k h l = ap pos (sym (shifted_out m k 64 (omega (arith, ints, h.1)) l))
shifted_right-most (negsuc m) k h l = ap negsuc (sym (shifted_out m k 64 (omega (arith, ints, h.0)) l))

-- ---- the steps of a power

pub in_range-some : (z s : ℤ) → in_range z ≡ Some s → (s ≡ z) × (unsigned_abs s < 2 ^ 65)
in_range-some z s e = ⊎_elim
    (λ h. let same : s ≡ z = (let d = h.0 in cc) in (same, omega (arith, ints, same, h.1.0, h.1.1)))
    (λ h. absurd (let d = h.0 in cc)) (constant_cases z)

halved : (n : ℕ) → n % 2 ≡ 0 → n ≡ 2 * (n / 2)
halved n h = omega arith

pub power-even_none : (x : ℤ) (n : ℕ) → n % 2 ≡ 0 → n ≢ 0 → in_range (x *ℤ x) ≡ None → in_range (power x n) ≡ None
power-even_none x n h g e = ap (λ m. in_range (power x m)) (halved n h) ∙ power-even_beyond x (n / 2) (omega arith) e

pub power-even_some : (x s : ℤ) (n : ℕ) → n % 2 ≡ 0 → s ≡ x *ℤ x → power s (n / 2) ≡ power x n
power-even_some x s n h e = ap (λ z. power z (n / 2)) e ∙ sym (power-square x (n / 2)) ∙ ap (power x) (sym (halved n h))

pub power-odd_none : (x : ℤ) (n : ℕ) → n ≢ 0 → in_range (power x (n - 1)) ≡ None → in_range (power x n) ≡ None
power-odd_none x zero h e = absurd (h refl)
power-odd_none x (suc n) h e = power-odd_beyond x n (ap (λ m. in_range (power x m)) (let d : n ≡ suc n - 1 = omega arith in d) ∙ e)

pub power-odd_some : (x s : ℤ) (n : ℕ) → n ≢ 0 → s ≡ power x (n - 1) → x *ℤ s ≡ power x n
power-odd_some x s zero h e = absurd (h refl)
power-odd_some x s (suc n) h e = ap (λ z. x *ℤ z) (e ∙ ap (power x) (let d : suc n - 1 ≡ n = omega arith in d))
