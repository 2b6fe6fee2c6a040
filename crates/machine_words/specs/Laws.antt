-- What instructions give on the words of whole numbers: the word of what the operation gives on the numbers. Sums, differences,
-- products, shifts to the left and operations on bits are so for all numbers; quotients, shifts to the right and comparisons where the
-- numbers are in the range of signed or of unsigned words.
use Rattle.std.specs.Prelude.{◌≡◌, ℕ, ◌-◌, ◌/◌, ◌%◌, ◌^◌, ◌<◌, ◌≤◌, not, Bool, true, false, nat_eq, ℤ, pos, ◌+ℤ◌, ◌-ℤ◌, ◌*ℤ◌, ◌≤ℤ◌, FitsSigned, int_div, int_rem, int_lt, int_le}
use Rattle.std.specs.Int.{w64, cast_unsigned, int_rem_euclid, int_wrapping_add, int_wrapping_sub, int_wrapping_mul, int_shl, int_shr, int_bit_and, int_bit_or, int_bit_xor}
use Rattle.std.specs.Ordering.{int_eq}
use Rattle.word_arith.specs.Whole.{int_and, int_or, int_xor}
use Rattle.word_arith.specs.WordTy.{least_value, greatest_value, value_modulo}
use Rattle.qir_module.specs.Machine.{Word, unsigned_word, same_word, unsigned_lt}
use Rattle.machine_words.specs.Words.{word_of}

-- numbers in range are their own words, and their own values at a width
pub record NumbersAreKept : Type 0 where
  pub words : (z : ℤ) → FitsSigned w64 z → word_of z ≡ z
  pub fit : (z : ℤ) → FitsSigned w64 (word_of z)
  pub unsigned : (n : ℕ) → n < 2 ^ 64 → cast_unsigned w64 (word_of (pos n)) ≡ n
  pub values : (signed : Bool) (n : ℕ) (z : ℤ) → 1 ≤ n → least_value signed n ≤ℤ z → z ≤ℤ greatest_value signed n → value_modulo signed n z ≡ z

-- on all numbers
pub record WordsAreExact : Type 0 where
  pub sums : (x y : ℤ) → int_wrapping_add w64 (word_of x) (word_of y) ≡ word_of (x +ℤ y)
  pub differences : (x y : ℤ) → int_wrapping_sub w64 (word_of x) (word_of y) ≡ word_of (x -ℤ y)
  pub products : (x y : ℤ) → int_wrapping_mul w64 (word_of x) (word_of y) ≡ word_of (x *ℤ y)
  pub left : (x : ℤ) (k : ℕ) → int_shl w64 (word_of x) k ≡ word_of (x *ℤ pos (2 ^ k))
  pub ands : (x y : ℤ) → int_bit_and w64 (word_of x) (word_of y) ≡ word_of (int_and x y)
  pub ors : (x y : ℤ) → int_bit_or w64 (word_of x) (word_of y) ≡ word_of (int_or x y)
  pub xors : (x y : ℤ) → int_bit_xor w64 (word_of x) (word_of y) ≡ word_of (int_xor x y)

-- on numbers in the range of signed words
pub record SignedWordsAreExact : Type 0 where
  pub quotients : (x : ℤ) (k : ℕ) → FitsSigned w64 x → 0 < k → int_div (word_of x) (pos k) ≡ word_of (int_div x (pos k))
  pub rests : (x : ℤ) (k : ℕ) → FitsSigned w64 x → 0 < k → k < 2 ^ 63 → int_rem (word_of x) (pos k) ≡ word_of (int_rem x (pos k))
  pub right : (x : ℤ) (k : ℕ) → FitsSigned w64 x → int_shr (word_of x) k ≡ word_of (int_shr x k)
  pub equal : (x y : ℤ) → FitsSigned w64 x → FitsSigned w64 y → same_word (word_of x) (word_of y) ≡ int_eq x y
  pub less : (x y : ℤ) → FitsSigned w64 x → FitsSigned w64 y → int_lt (word_of x) (word_of y) ≡ int_lt x y
  pub at_most : (x y : ℤ) → FitsSigned w64 x → FitsSigned w64 y → int_le (word_of x) (word_of y) ≡ int_le x y

-- and of unsigned words
pub record UnsignedWordsAreExact : Type 0 where
  pub quotients : (n k : ℕ) → n < 2 ^ 64 → unsigned_word (cast_unsigned w64 (word_of (pos n)) / k) ≡ Word (word_of (pos (n / k)))
  pub rests : (n k : ℕ) → n < 2 ^ 64 → unsigned_word (cast_unsigned w64 (word_of (pos n)) % k) ≡ Word (word_of (pos (n % k)))
  pub equal : (m n : ℕ) → m < 2 ^ 64 → n < 2 ^ 64 → same_word (word_of (pos m)) (word_of (pos n)) ≡ int_eq (pos m) (pos n)
  pub less : (m n : ℕ) → m < 2 ^ 64 → n < 2 ^ 64 → unsigned_lt (word_of (pos m)) (word_of (pos n)) ≡ int_lt (pos m) (pos n)
  pub at_most : (m n : ℕ) → m < 2 ^ 64 → n < 2 ^ 64 → not (unsigned_lt (word_of (pos n)) (word_of (pos m))) ≡ int_le (pos m) (pos n)

-- A number is reduced to a value of n bits by a mask, or by two shifts where the value has a sign, and to one of 64 bits by nothing. The
-- bits of a word are those of its number.
pub record WordsAreReduced : Type 0 where
  pub masked : (n : ℕ) (z : ℤ) → 1 ≤ n → n ≤ 63 → int_bit_and w64 (word_of z) (pos (2 ^ n - 1)) ≡ word_of (value_modulo false n z)
  pub extended : (n : ℕ) (z : ℤ) → 1 ≤ n → n ≤ 64 → int_shr (int_shl w64 (word_of z) (64 - n)) (64 - n) ≡ word_of (value_modulo true n z)
  pub whole : (signed : Bool) (z : ℤ) → word_of (value_modulo signed 64 z) ≡ word_of z
  pub odd : (z : ℤ) → nat_eq (cast_unsigned w64 (word_of z) % 2) 1 ≡ int_eq (int_rem_euclid z (pos 2)) (pos 1)
  pub bits : (z : ℤ) (k : ℕ) → k < 64 → nat_eq (cast_unsigned w64 (word_of z) / 2 ^ k % 2) 1 ≡ int_eq (int_rem_euclid (int_shr z k) (pos 2)) (pos 1)
