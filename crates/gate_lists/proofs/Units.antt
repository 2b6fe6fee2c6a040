-- Words of units.
use Rattle.std.proofs.Common.{◌≡◌, ℕ, zero, suc, ◌+◌, ◌*◌, ◌/◌, ◌^◌, ◌<◌, true, ℤ, pos, negsuc, neg_ℤ, ◌+ℤ◌, ◌-ℤ◌, ◌≤ℤ◌, ◌<ℤ◌, arith}
use Rattle.std.specs.Int.{int_rem_euclid}
use Rattle.std.proofs.Math.Nat.{div-add-mod', mod-lt}
use Rattle.std.proofs.lemmas.Int.{ints}
use Rattle.std.proofs.lemmas.Nat.{pow_pos}
use Rattle.word_arith.specs.WordTy.{least_value}
use Rattle.gate_lists.specs.Units.{word_of, negated}

-- two numbers less than m apart are equal where they differ by a multiple of m
same_in_range : (m : ℕ) (a b low : ℤ) (j k : ℕ) → a +ℤ pos (j * m) ≡ b +ℤ pos (k * m) → low ≤ℤ a → a <ℤ (low +ℤ pos m) → low ≤ℤ b → b <ℤ (low +ℤ pos m) → a ≡ b
same_in_range m a b low zero zero e la ua lb ub = omega (arith, ints)
same_in_range m a b low zero (suc k) e la ua lb ub = absurd (omega (arith, ints))
same_in_range m a b low (suc j) zero e la ua lb ub = absurd (omega (arith, ints))
same_in_range m a b low (suc j) (suc k) e la ua lb ub = same_in_range m a b low j k (omega (arith, ints)) la ua lb ub

-- what is left of a number modulo m
record IsLeft (m : ℕ) (x r : ℤ) : Type 0 where
  up : ℕ
  down : ℕ
  near : r +ℤ pos (up * m) ≡ x +ℤ pos (down * m)
  above : pos 0 ≤ℤ r
  below : r <ℤ pos m

left_is : (m : ℕ) (x : ℤ) → 0 < m → IsLeft m x (int_rem_euclid x (pos m))
left_is m (pos a) some = record { up = a / m; down = 0; near = omega (arith, ints, div-add-mod' a m); above = omega (arith, ints); below = omega (arith, ints, mod-lt a some) }
left_is m (negsuc a) some = record { up = 0; down = a / m + 1; near = omega (arith, ints, div-add-mod' a m, mod-lt a some); above = omega (arith, ints); below = omega (arith, ints, mod-lt a some) }

-- a word differs from its number by a multiple of 2^64
record IsWordOf (m : ℕ) (low z w : ℤ) : Type 0 where
  up : ℕ
  down : ℕ
  near : w +ℤ pos (up * m) ≡ z +ℤ pos (down * m)
  above : low ≤ℤ w
  below : w <ℤ (low +ℤ pos m)

word_is : (m : ℕ) (low z : ℤ) → 0 < m → IsWordOf m low z (low +ℤ int_rem_euclid (z -ℤ low) (pos m))
word_is m low z some =
    let left = left_is m (z -ℤ low) some in
    let near = left.near in
    let above = left.above in
    let below = left.below in
    record { up = left.up; down = left.down; near = omega (arith, ints, near); above = omega (arith, ints, above); below = omega (arith, ints, below) }

word_again : (m : ℕ) (low z w v : ℤ) → IsWordOf m low z w → IsWordOf m low w v → v ≡ w
word_again m low z w v a b =
    let near = b.near in
    let above = a.above in
    let below = a.below in
    let above' = b.above in
    let below' = b.below in
    same_in_range m v w low b.up b.down near above' below' above below

negated_again : (m : ℕ) (low z u v w : ℤ) → IsWordOf m low (neg_ℤ z) u → IsWordOf m low (neg_ℤ u) v → IsWordOf m low z w → v ≡ w
negated_again m low z u v w a b e =
    let near : u +ℤ pos (a.up * m) ≡ neg_ℤ z +ℤ pos (a.down * m) = a.near in
    let near' : v +ℤ pos (b.up * m) ≡ neg_ℤ u +ℤ pos (b.down * m) = b.near in
    let near'' : w +ℤ pos (e.up * m) ≡ z +ℤ pos (e.down * m) = e.near in
    let above = b.above in
    let below = b.below in
    let above' = e.above in
    let below' = e.below in
    same_in_range m v w low (b.up + a.down + e.down) (b.down + a.up + e.up) (omega (arith, ints, near, near', near'')) above below above' below'

abbrev low : ℤ
low = least_value true 64

pub word_of-word_of : (z : ℤ) → word_of (word_of z) ≡ word_of z
word_of-word_of z = word_again (2 ^ 64) low z (word_of z) (word_of (word_of z)) (word_is (2 ^ 64) low z (pow_pos 64)) (word_is (2 ^ 64) low (word_of z) (pow_pos 64))

pub negated-negated : (z : ℤ) → negated (negated z) ≡ word_of z
negated-negated z =
    negated_again (2 ^ 64) low z (negated z) (negated (negated z)) (word_of z) (word_is (2 ^ 64) low (neg_ℤ z) (pow_pos 64)) (word_is (2 ^ 64) low (neg_ℤ (negated z)) (pow_pos 64)) (word_is (2 ^ 64) low z (pow_pos 64))
