-- Congruence of whole numbers, and what `rem_euclid` leaves.
use Rattle.std.proofs.Common.{◌≡◌, ℕ, zero, suc, ◌+◌, ◌-◌, ◌*◌, ◌/◌, ◌%◌, ◌<◌, ◌≤◌, ℤ, pos, negsuc, neg_ℤ, ◌+ℤ◌, ◌-ℤ◌, ◌*ℤ◌, ◌≤ℤ◌, ◌<ℤ◌, refl, ap, ◌∙◌, FitsSigned, ◌^◌, arith}
use Rattle.std.proofs.Math.Nat.{div-add-mod', mod-lt}
use Rattle.std.proofs.lemmas.Int.{ints}
use Rattle.std.proofs.lemmas.Nat.{pow-add}
use Rattle.std.specs.Int.{Width, w8, w16, w32, w64, w128, cast_unsigned, int_rem_euclid}
use borrow.Author.Differences.{up, down}
use mir.Val.{bits, hbits}
use Rattle.std.proofs.Math.IntN.{*ℤ_comm}
use Rattle.std.proofs.Math.Pow.{pow_mono}
use Rattle.word_arith.specs.Whole.{IsCongruent}

-- the same with natural multiples on both sides, which `omega` reads, and back
pub congruent_from_multiples : (m : ℕ) (a b : ℤ) (j k : ℕ) → a +ℤ pos (j * m) ≡ b +ℤ pos (k * m) → IsCongruent m a b
congruent_from_multiples m a b zero k e = (pos k, omega (arith, ints))
congruent_from_multiples m a b (suc j) zero e = (negsuc j, omega (arith, ints))
congruent_from_multiples m a b (suc j) (suc k) e = congruent_from_multiples m a b j k (omega (arith, ints))

multiples_from_congruent : (m : ℕ) (a b : ℤ) → IsCongruent m a b → (j : ℕ) × (k : ℕ) × (a +ℤ pos (j * m) ≡ b +ℤ pos (k * m))
multiples_from_congruent m a b h = by h.0 h.1
  where
    by : (k : ℤ) → a ≡ b +ℤ k *ℤ pos m → (j : ℕ) × (k : ℕ) × (a +ℤ pos (j * m) ≡ b +ℤ pos (k * m))
    by (pos k) e = (0, k, omega (arith, ints))
    by (negsuc k) e = (suc k, 0, omega (arith, ints))

-- an equivalence
pub congruent_refl : (m : ℕ) (a : ℤ) → IsCongruent m a a
congruent_refl m a = congruent_from_multiples m a a 0 0 refl

pub congruent_sym : (m : ℕ) (a b : ℤ) → IsCongruent m a b → IsCongruent m b a
congruent_sym m a b h = let (j, k, e) = multiples_from_congruent m a b h in congruent_from_multiples m b a k j (omega (arith, ints))

pub congruent_trans : (m : ℕ) (a b c : ℤ) → IsCongruent m a b → IsCongruent m b c → IsCongruent m a c
congruent_trans m a b c g h =
    let p = multiples_from_congruent m a b g in
    let q = multiples_from_congruent m b c h in
    congruent_from_multiples m a c (p.0 + q.0) (p.1 + q.1) (omega (arith, ints, p.2, q.2))

-- products of congruent numbers are congruent
congruent_mul_right : (m : ℕ) (a b c : ℤ) → IsCongruent m a b → IsCongruent m (a *ℤ c) (b *ℤ c)
congruent_mul_right m a b c h =
    let p = multiples_from_congruent m a b h in
    let j = p.0 in
    let k = p.1 in
    let sum : up a + j * m + down b ≡ up b + k * m + down a = omega (arith, ints, p.2) in
    let above = ap (λ x. x * up c) sum in
    let below = ap (λ x. x * down c) sum in
    congruent_from_multiples m (a *ℤ c) (b *ℤ c) (j * up c + k * down c) (k * up c + j * down c) (omega (arith, ints))

pub congruent_mul : (m : ℕ) (a b c d : ℤ) → IsCongruent m a b → IsCongruent m c d → IsCongruent m (a *ℤ c) (b *ℤ d)
congruent_mul m a b c d g h =
    let turned : IsCongruent m (b *ℤ c) (b *ℤ d) = rw (*ℤ_comm b c, *ℤ_comm b d) (congruent_mul_right m c d b h) in
    congruent_trans m (a *ℤ c) (b *ℤ c) (b *ℤ d) (congruent_mul_right m a b c g) turned

-- sums, negatives and differences of congruent numbers are congruent
pub congruent_add : (m : ℕ) (a b c d : ℤ) → IsCongruent m a b → IsCongruent m c d → IsCongruent m (a +ℤ c) (b +ℤ d)
congruent_add m a b c d g h =
    let p = multiples_from_congruent m a b g in
    let q = multiples_from_congruent m c d h in
    congruent_from_multiples m (a +ℤ c) (b +ℤ d) (p.0 + q.0) (p.1 + q.1) (omega (arith, ints, p.2, q.2))

pub congruent_neg : (m : ℕ) (a b : ℤ) → IsCongruent m a b → IsCongruent m (neg_ℤ a) (neg_ℤ b)
congruent_neg m a b h =
    let p = multiples_from_congruent m a b h in
    congruent_from_multiples m (neg_ℤ a) (neg_ℤ b) p.1 p.0 (omega (arith, ints, p.2))

pub congruent_sub : (m : ℕ) (a b c d : ℤ) → IsCongruent m a b → IsCongruent m c d → IsCongruent m (a -ℤ c) (b -ℤ d)
congruent_sub m a b c d g h =
    let p = multiples_from_congruent m a b g in
    let q = multiples_from_congruent m c d h in
    congruent_from_multiples m (a -ℤ c) (b -ℤ d) (p.0 + q.1) (p.1 + q.0) (omega (arith, ints, p.2, q.2))

-- two congruent numbers less than m apart are equal
pub same_from_congruent : (m : ℕ) (a b low : ℤ) → IsCongruent m a b → low ≤ℤ a → a <ℤ (low +ℤ pos m) → low ≤ℤ b → b <ℤ (low +ℤ pos m) → a ≡ b
same_from_congruent m a b low h la ua lb ub = by h.0 h.1
  where
    by : (k : ℤ) → a ≡ b +ℤ k *ℤ pos m → a ≡ b
    by (pos zero) e = omega (arith, ints)
    by (pos (suc k)) e = absurd (omega (arith, ints))
    by (negsuc k) e = absurd (omega (arith, ints))

-- what `rem_euclid` leaves of x is congruent to x, and lies from 0 below the divisor
pub int_rem_euclid-congruent : (m : ℕ) (x : ℤ) → 0 < m → IsCongruent m (int_rem_euclid x (pos m)) x
int_rem_euclid-congruent m (pos a) h = congruent_from_multiples m (pos (a % m)) (pos a) (a / m) 0 (omega (arith, ints, div-add-mod' a m))
int_rem_euclid-congruent m (negsuc a) h = congruent_from_multiples m (pos (m - 1 - a % m)) (negsuc a) 0 (a / m + 1) (omega (arith, ints, div-add-mod' a m, mod-lt a h))

pub int_rem_euclid-inside : (m : ℕ) (x : ℤ) → 0 < m → (pos 0 ≤ℤ int_rem_euclid x (pos m)) × (int_rem_euclid x (pos m) <ℤ pos m)
int_rem_euclid-inside m (pos a) h = (omega (arith, ints), omega (arith, ints, mod-lt a h))
int_rem_euclid-inside m (negsuc a) h = (omega (arith, ints), omega (arith, ints, mod-lt a h))

-- a signed number has one bit fewer for its size
pub hbits-bits : (w : Width) → hbits w < bits w
hbits-bits w8 = omega arith
hbits-bits w16 = omega arith
hbits-bits w32 = omega arith
hbits-bits w64 = omega arith
hbits-bits w128 = omega arith

-- a signed number is congruent to its bits, read without a sign, modulo each power of 2 up to its width's
pub cast_unsigned-congruent : (w : Width) (k : ℕ) (z : ℤ) → k ≤ bits w → FitsSigned w z → IsCongruent (2 ^ k) (pos (cast_unsigned w z)) z
cast_unsigned-congruent w k (pos n) h f = congruent_refl (2 ^ k) (pos n)
cast_unsigned-congruent w k (negsuc n) h f =
    let e : bits w ≡ (bits w - k) + k = omega arith in
    let whole : 2 ^ bits w ≡ 2 ^ (bits w - k) * 2 ^ k = ap (λ x. 2 ^ x) e ∙ pow-add 2 (bits w - k) k in
    congruent_from_multiples (2 ^ k) (pos (cast_unsigned w (negsuc n))) (negsuc n) 0 (2 ^ (bits w - k)) (omega (arith, ints, f.sfits, whole, pow_mono (let top = hbits-bits w in let below : hbits w ≤ bits w = omega (arith, top) in below)))
