-- Sums, differences and products of words, and shifts to the left.
use Rattle.std.proofs.Common.{◌≡◌, ℕ, ◌+◌, ◌-◌, ◌*◌, ◌^◌, ◌<◌, ◌≤◌, ℤ, pos, ◌+ℤ◌, ◌-ℤ◌, ◌*ℤ◌, refl, arith}
use Rattle.std.proofs.Math.Facts.{Fits-of_z}
use Rattle.std.proofs.lemmas.Int.{ints}
use Rattle.std.specs.Int.{w64, cast_unsigned, int_wrapping_add, int_wrapping_sub, int_wrapping_mul, int_shl}
use Rattle.word_arith.specs.Whole.{IsCongruent}
use Rattle.machine_words.specs.Words.{word_of}
use Rattle.machine_words.proofs.Words.{Congruences, word_is_word, unsigned_congruent, wrapped_word}

bits_below : (z : ℤ) → cast_unsigned w64 (word_of z) < 2 ^ 64
bits_below z = (Fits-of_z {w = w64} (word_is_word z)).fits

sum_of_naturals : (m n : ℕ) → pos m +ℤ pos n ≡ pos (m + n)
sum_of_naturals m n = refl

product_of_naturals : (m n : ℕ) → pos m *ℤ pos n ≡ pos (m * n)
product_of_naturals m n = refl

module _ (laws : Congruences) where
  pub add_words : (x y : ℤ) → int_wrapping_add w64 (word_of x) (word_of y) ≡ word_of (x +ℤ y)
  add_words x y =
      let m = cast_unsigned w64 (word_of x) in
      let n = cast_unsigned w64 (word_of y) in
      wrapped_word laws (m + n) (x +ℤ y) (laws.sums (2 ^ 64) (pos m) x (pos n) y (unsigned_congruent laws x) (unsigned_congruent laws y))

  sub_bits : (m n : ℕ) → n ≤ 2 ^ 64 → IsCongruent (2 ^ 64) (pos (m + (2 ^ 64 - n))) (pos m -ℤ pos n)
  sub_bits m n h = (pos 1, omega (arith, ints))

  pub sub_words : (x y : ℤ) → int_wrapping_sub w64 (word_of x) (word_of y) ≡ word_of (x -ℤ y)
  sub_words x y =
      let m = cast_unsigned w64 (word_of x) in
      let n = cast_unsigned w64 (word_of y) in
      let few = bits_below y in
      wrapped_word laws (m + (2 ^ 64 - n)) (x -ℤ y)
      (laws.joined (2 ^ 64) (pos (m + (2 ^ 64 - n))) (pos m -ℤ pos n) (x -ℤ y) (sub_bits m n (omega arith))
      (laws.differences (2 ^ 64) (pos m) x (pos n) y (unsigned_congruent laws x) (unsigned_congruent laws y)))

  pub mul_words : (x y : ℤ) → int_wrapping_mul w64 (word_of x) (word_of y) ≡ word_of (x *ℤ y)
  mul_words x y =
      let m = cast_unsigned w64 (word_of x) in
      let n = cast_unsigned w64 (word_of y) in
      wrapped_word laws (m * n) (x *ℤ y) (laws.products (2 ^ 64) (pos m) x (pos n) y (unsigned_congruent laws x) (unsigned_congruent laws y))

  pub shift_word : (x : ℤ) (k : ℕ) → int_shl w64 (word_of x) k ≡ word_of (x *ℤ pos (2 ^ k))
  shift_word x k =
      let m = cast_unsigned w64 (word_of x) in
      wrapped_word laws (m * 2 ^ k) (x *ℤ pos (2 ^ k)) (laws.products (2 ^ 64) (pos m) x (pos (2 ^ k)) (pos (2 ^ k)) (unsigned_congruent laws x) (laws.same (2 ^ 64) (pos (2 ^ k))))
