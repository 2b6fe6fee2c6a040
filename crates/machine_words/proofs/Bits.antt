-- `&`, `|` and `^` on words: the bits of a number's word are its lowest 64 bits.
use Rattle.std.proofs.Common.{◌≡◌, ℕ, ◌+◌, ◌-◌, ◌/◌, ◌%◌, ◌^◌, ◌<◌, min, max, nat_eq, ℤ, pos, negsuc, sym, ap, ◌∙◌, arith}
use Rattle.std.proofs.Math.Nat.{mod-lt}
use Rattle.std.proofs.lemmas.Nat.{shr_split, and_assoc}
use Rattle.std.proofs.lemmas.Nat.Bits.{bit_at-lt, bit_at_and, bit_at_or, bit_at_xor, bit_at_cat_low, bit_at_not, same_from_bits_below}
use Rattle.std.specs.Int.{w64, cast_unsigned, cast_signed, int_rem_euclid, int_shr, bit_at, bit_not, int_bit_and, int_bit_or, int_bit_xor}
use Rattle.std.specs.Int.Bits.{bit_and, bit_or, bit_xor, xor_add_and, and_self, and_lt, or_lt, xor_lt}
use Rattle.std.specs.Ordering.{int_eq}
use Rattle.word_arith.specs.Whole.{IsCongruent, int_bit_at, bit_and_not, int_and, int_or, int_xor}
use Rattle.machine_words.specs.Words.{word_of}
use Rattle.machine_words.proofs.Words.{Congruences, one_word, word_of_unsigned, unsigned_of_word, wrapped_congruent, low_congruent}
use Rattle.machine_words.proofs.Comparing.{equal_naturals}

-- ---- the lowest 64 bits of a number

abbrev low : ℤ → ℕ
low (pos n) = n % 2 ^ 64
low (negsuc n) = bit_not w64 (n % 2 ^ 64)

low_below : (z : ℤ) → low z < 2 ^ 64
low_below (pos n) = mod-lt n (omega arith)
low_below (negsuc n) = omega arith

bit_of_rest : (n i : ℕ) → i < 64 → bit_at (n % 2 ^ 64) i ≡ bit_at n i
bit_of_rest n i l = sym (ap (λ x. bit_at x i) (sym (shr_split n 64)) ∙ bit_at_cat_low (n / 2 ^ 64) 64 (n % 2 ^ 64) i l)

low_bit : (z : ℤ) (i : ℕ) → i < 64 → bit_at (low z) i ≡ int_bit_at z i
low_bit (pos n) i l = bit_of_rest n i l
low_bit (negsuc n) i l = bit_at_not w64 (n % 2 ^ 64) i (mod-lt n (omega arith)) l ∙ ap (λ b. 1 - b) (bit_of_rest n i l)

-- ---- the bits of the operations on whole numbers

bit_and_not_is : (m n : ℕ) → bit_and_not m n ≡ bit_xor m (bit_and m n)
bit_and_not_is m n =
    let common : bit_and m (bit_and m n) ≡ bit_and m n = sym (and_assoc n m m) ∙ ap (λ x. bit_and x n) (and_self m) in
    omega (arith, xor_add_and m (bit_and m n), common)

bit_without : (m n i : ℕ) → bit_at (bit_and_not m n) i ≡ min (bit_at m i) (1 - bit_at n i)
bit_without m n i =
    ap (λ x. bit_at x i) (bit_and_not_is m n) ∙ omega (arith, bit_at_xor m (bit_and m n) i, bit_at_and m n i, bit_at-lt m i, bit_at-lt n i)

bit_of_and : (x y : ℤ) (i : ℕ) → int_bit_at (int_and x y) i ≡ min (int_bit_at x i) (int_bit_at y i)
bit_of_and (pos m) (pos n) i = bit_at_and m n i
bit_of_and (pos m) (negsuc n) i = bit_without m n i
bit_of_and (negsuc m) (pos n) i = omega (arith, bit_without n m i)
bit_of_and (negsuc m) (negsuc n) i = omega (arith, bit_at_or m n i)

bit_of_or : (x y : ℤ) (i : ℕ) → int_bit_at (int_or x y) i ≡ max (int_bit_at x i) (int_bit_at y i)
bit_of_or (pos m) (pos n) i = bit_at_or m n i
bit_of_or (pos m) (negsuc n) i = omega (arith, bit_without n m i, bit_at-lt m i, bit_at-lt n i)
bit_of_or (negsuc m) (pos n) i = omega (arith, bit_without m n i, bit_at-lt m i, bit_at-lt n i)
bit_of_or (negsuc m) (negsuc n) i = omega (arith, bit_at_and m n i)

bit_of_xor : (x y : ℤ) (i : ℕ) → int_bit_at (int_xor x y) i ≡ (int_bit_at x i + int_bit_at y i) % 2
bit_of_xor (pos m) (pos n) i = bit_at_xor m n i
bit_of_xor (pos m) (negsuc n) i = omega (arith, bit_at_xor m n i, bit_at-lt m i, bit_at-lt n i)
bit_of_xor (negsuc m) (pos n) i = omega (arith, bit_at_xor m n i, bit_at-lt m i, bit_at-lt n i)
bit_of_xor (negsuc m) (negsuc n) i = omega (arith, bit_at_xor m n i, bit_at-lt m i, bit_at-lt n i)

-- ---- words

module _ (laws : Congruences) where
  low_is : (z : ℤ) → IsCongruent (2 ^ 64) (pos (low z)) z
  low_is (pos n) = wrapped_congruent laws n
  low_is (negsuc n) = low_congruent n

  unsigned_is_low : (z : ℤ) → cast_unsigned w64 (word_of z) ≡ low z
  unsigned_is_low z =
      let e = one_word laws (pos (low z)) z (low_is z) in
      ap (cast_unsigned w64) (sym e) ∙ unsigned_of_word (low z) (low_below z)

  -- an operation whose bits are g of the bits of its operands
  module _ (op g : ℕ → ℕ → ℕ) (law : (m n i : ℕ) → bit_at (op m n) i ≡ g (bit_at m i) (bit_at n i))
      (bound : (k m n : ℕ) → m < 2 ^ k → n < 2 ^ k → op m n < 2 ^ k)
      (whole : ℤ → ℤ → ℤ) (each : (x y : ℤ) (i : ℕ) → int_bit_at (whole x y) i ≡ g (int_bit_at x i) (int_bit_at y i)) where
    low_by_bits : (x y : ℤ) → op (low x) (low y) ≡ low (whole x y)
    low_by_bits x y =
        same_from_bits_below 64 (op (low x) (low y)) (low (whole x y)) (bound 64 (low x) (low y) (low_below x) (low_below y)) (low_below (whole x y))
        (λ i l. law (low x) (low y) i ∙ (λ t. g (low_bit x i l t) (low_bit y i l t)) ∙ sym (each x y i) ∙ sym (low_bit (whole x y) i l))

    by_bits : (x y : ℤ) → cast_signed w64 (op (cast_unsigned w64 (word_of x)) (cast_unsigned w64 (word_of y))) ≡ word_of (whole x y)
    by_bits x y =
        (λ t. cast_signed w64 (op (unsigned_is_low x t) (unsigned_is_low y t)))
        ∙ ap (cast_signed w64) (low_by_bits x y)
        ∙ word_of_unsigned (low (whole x y)) (low_below (whole x y))
        ∙ one_word laws (pos (low (whole x y))) (whole x y) (low_is (whole x y))

  pub and_words : (x y : ℤ) → int_bit_and w64 (word_of x) (word_of y) ≡ word_of (int_and x y)
  and_words = by_bits bit_and min bit_at_and and_lt int_and bit_of_and

  pub or_words : (x y : ℤ) → int_bit_or w64 (word_of x) (word_of y) ≡ word_of (int_or x y)
  or_words = by_bits bit_or max bit_at_or or_lt int_or bit_of_or

  pub xor_words : (x y : ℤ) → int_bit_xor w64 (word_of x) (word_of y) ≡ word_of (int_xor x y)
  xor_words = by_bits bit_xor (λ a b. (a + b) % 2) bit_at_xor xor_lt int_xor bit_of_xor

  -- the lowest bit of a word is that of its number
  odd_low : (z : ℤ) → nat_eq (low z % 2) 1 ≡ int_eq (int_rem_euclid z (pos 2)) (pos 1)
  odd_low (pos n) = let e : n % 2 ^ 64 % 2 ≡ n % 2 = omega arith in ap (λ x. nat_eq x 1) e ∙ equal_naturals (n % 2) 1
  odd_low (negsuc n) = let e : (2 ^ 64 - 1 - n % 2 ^ 64) % 2 ≡ 2 - 1 - n % 2 = omega arith in ap (λ x. nat_eq x 1) e ∙ equal_naturals (2 - 1 - n % 2) 1

  pub odd_word : (z : ℤ) → nat_eq (cast_unsigned w64 (word_of z) % 2) 1 ≡ int_eq (int_rem_euclid z (pos 2)) (pos 1)
  odd_word z = ap (λ x. nat_eq (x % 2) 1) (unsigned_is_low z) ∙ odd_low z

  -- and so is each other bit
  bit_low : (z : ℤ) (k : ℕ) → k < 64 → nat_eq (low z / 2 ^ k % 2) 1 ≡ int_eq (int_rem_euclid (int_shr z k) (pos 2)) (pos 1)
  bit_low z k h = ap (λ x. nat_eq x 1) (low_bit z k h) ∙ whole z
    where
      whole : (z : ℤ) → nat_eq (int_bit_at z k) 1 ≡ int_eq (int_rem_euclid (int_shr z k) (pos 2)) (pos 1)
      whole (pos n) = equal_naturals (n / 2 ^ k % 2) 1
      whole (negsuc n) = equal_naturals (1 - n / 2 ^ k % 2) 1

  pub bit_word : (z : ℤ) (k : ℕ) → k < 64 → nat_eq (cast_unsigned w64 (word_of z) / 2 ^ k % 2) 1 ≡ int_eq (int_rem_euclid (int_shr z k) (pos 2)) (pos 1)
  bit_word z k h = ap (λ x. nat_eq (x / 2 ^ k % 2) 1) (unsigned_is_low z) ∙ bit_low z k h
