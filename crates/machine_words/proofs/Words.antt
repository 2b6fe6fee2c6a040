-- Words of 64 bits that have the lowest bits of whole numbers, and what instructions give on them.
use Rattle.std.proofs.Common.{◌≡◌, ℕ, zero, suc, ◌+◌, ◌-◌, ◌*◌, ◌/◌, ◌%◌, ◌^◌, ◌<◌, ◌≤◌, Bool, true, false, ℤ, pos, negsuc, neg_ℤ, ◌+ℤ◌, ◌-ℤ◌, ◌*ℤ◌, ◌≤ℤ◌, ◌↔◌, FitsSigned, ⊎_elim, refl, sym, ap, subst, ◌∙◌, arith}
use Rattle.std.proofs.Math.Nat.{div-add-mod', mod-lt, mod-eq_of_lt, pow-suc}
use Rattle.std.proofs.lemmas.Nat.{pow_pos}
use Rattle.std.proofs.lemmas.Int.{ints, of_z-to_z, to_z_pos}
use Rattle.std.proofs.lemmas.Bool.{cases_lt, le-ltb}
use Rattle.std.specs.Int.{w64, cast_unsigned, cast_signed, int_rem_euclid}
use Rattle.word_arith.specs.declared.word_ty.WordTy.{WordTy}
use Rattle.word_arith.specs.Whole.{IsCongruent}
use Rattle.word_arith.specs.WordTy.{least_value, greatest_value, value_modulo, reduced}
use Rattle.machine_words.specs.Words.{word_of}

-- the laws of congruent numbers
pub record Congruences : Type 0 where
  pub same : (m : ℕ) (a : ℤ) → IsCongruent m a a
  pub turned : (m : ℕ) (a b : ℤ) → IsCongruent m a b → IsCongruent m b a
  pub joined : (m : ℕ) (a b c : ℤ) → IsCongruent m a b → IsCongruent m b c → IsCongruent m a c
  pub sums : (m : ℕ) (a b c d : ℤ) → IsCongruent m a b → IsCongruent m c d → IsCongruent m (a +ℤ c) (b +ℤ d)
  pub differences : (m : ℕ) (a b c d : ℤ) → IsCongruent m a b → IsCongruent m c d → IsCongruent m (a -ℤ c) (b -ℤ d)
  pub products : (m : ℕ) (a b c d : ℤ) → IsCongruent m a b → IsCongruent m c d → IsCongruent m (a *ℤ c) (b *ℤ d)
  pub one_word : (ty : WordTy) (x y : ℤ) → IsCongruent (2 ^ ty.width) x y ↔ (reduced ty x ≡ reduced ty y)

-- ---- numbers that are words

modulo_at : (low z : ℤ) (m n : ℕ) → z -ℤ low ≡ pos m → m < n → low +ℤ int_rem_euclid (z -ℤ low) (pos n) ≡ z
modulo_at low z m n e h = let r : m % n ≡ m = mod-eq_of_lt h in rw (e, r) (omega (arith, ints, e))

modulo_over : (low z v : ℤ) (m n r : ℕ) → z -ℤ low ≡ pos m → m % n ≡ r → v ≡ low +ℤ pos r → low +ℤ int_rem_euclid (z -ℤ low) (pos n) ≡ v
modulo_over low z v m n r e q is = rw (e, q) (sym is)

-- a number in the range of words is its own word
pub word_fits : (z : ℤ) → FitsSigned w64 z → word_of z ≡ z
word_fits (pos n) f = modulo_at (neg_ℤ (pos (2 ^ 63))) (pos n) (n + 2 ^ 63) (2 ^ 64) (omega (arith, ints)) (omega (arith, f.sfits))
word_fits (negsuc n) f = modulo_at (neg_ℤ (pos (2 ^ 63))) (negsuc n) (2 ^ 63 - suc n) (2 ^ 64) (omega (arith, ints, f.sfits)) (omega arith)

-- a number in the range of a type is its own value
value_in_range : (low high z : ℤ) (n : ℕ) → high +ℤ pos 1 ≡ low +ℤ pos n → low ≤ℤ z → z ≤ℤ high → low +ℤ int_rem_euclid (z -ℤ low) (pos n) ≡ z
value_in_range low high z n e l h = by (z -ℤ low) refl
  where
    by : (d : ℤ) → z -ℤ low ≡ d → low +ℤ int_rem_euclid (z -ℤ low) (pos n) ≡ z
    by (pos m) is = modulo_at low z m n is (omega (arith, ints))
    by (negsuc m) is = absurd (omega (arith, ints))

pub double_half : (n : ℕ) → 1 ≤ n → 2 ^ n ≡ 2 ^ (n - 1) + 2 ^ (n - 1)
double_half zero h = absurd (omega arith)
double_half (suc n) h = let e : suc n - 1 ≡ n = omega arith in rw e (omega (arith, pow-suc 2 n))

pub value_kept : (signed : Bool) (n : ℕ) (z : ℤ) → 1 ≤ n → least_value signed n ≤ℤ z → z ≤ℤ greatest_value signed n → value_modulo signed n z ≡ z
value_kept true n z some l h =
    value_in_range (neg_ℤ (pos (2 ^ (n - 1)))) (pos (2 ^ (n - 1) - 1)) z (2 ^ n) (omega (arith, ints, double_half n some, pow_pos (n - 1))) l h
value_kept false n z some l h = value_in_range (pos 0) (pos (2 ^ n - 1)) z (2 ^ n) (omega (arith, ints, pow_pos n)) l h

cast_high : (n : ℕ) → 2 ^ 63 ≤ n → cast_signed w64 n ≡ negsuc (2 ^ 64 - suc n)
cast_high n l = rw (le-ltb n (2 ^ 63) l) refl

above_half : (n : ℕ) → 2 ^ 63 ≤ n → n < 2 ^ 64 → word_of (pos n) ≡ negsuc (2 ^ 64 - suc n)
above_half n l h = modulo_over (neg_ℤ (pos (2 ^ 63))) (pos n) (negsuc (2 ^ 64 - suc n)) (n + 2 ^ 63) (2 ^ 64) (n - 2 ^ 63) (omega (arith, ints)) (omega arith) (omega (arith, ints))

pub word_of_unsigned : (n : ℕ) → n < 2 ^ 64 → cast_signed w64 n ≡ word_of (pos n)
word_of_unsigned n h = ⊎_elim
    (λ l. to_z_pos w64 n l ∙ sym (word_fits (pos n) (record { sfits = l })))
    (λ l. cast_high n l ∙ sym (above_half n l h))
    (cases_lt n (2 ^ 63))

-- the number below 2^64 with the lowest bits of a number that is not below 0
pub unsigned_of_word : (n : ℕ) → n < 2 ^ 64 → cast_unsigned w64 (word_of (pos n)) ≡ n
unsigned_of_word n h = ap (cast_unsigned w64) (sym (word_of_unsigned n h)) ∙ of_z-to_z w64 n h

-- ---- what `rem_euclid` leaves

pub rem_within : (m : ℕ) (x : ℤ) → 0 < m → (r : ℕ) × (int_rem_euclid x (pos m) ≡ pos r) × (r < m)
rem_within m (pos a) h = (a % m, refl, mod-lt a h)
rem_within m (negsuc a) h = (m - 1 - a % m, refl, omega arith)

-- the value modulo m counted from a least one
pub from_low : (low z : ℤ) (m : ℕ) → 0 < m → (r : ℕ) × (low +ℤ int_rem_euclid (z -ℤ low) (pos m) ≡ low +ℤ pos r) × (r < m)
from_low low z m h = let (r, e, l) = rem_within m (z -ℤ low) h in (r, ap (λ x. low +ℤ x) e, l)

fits_from_half : (v : ℤ) (r : ℕ) → v ≡ neg_ℤ (pos (2 ^ 63)) +ℤ pos r → r < 2 ^ 64 → FitsSigned w64 v
fits_from_half (pos n) r e h = record { sfits = omega (arith, ints, e) }
fits_from_half (negsuc n) r e h = record { sfits = omega (arith, ints, e) }

pub word_is_word : (z : ℤ) → FitsSigned w64 (word_of z)
word_is_word z =
    let (r, e, l) = from_low (neg_ℤ (pos (2 ^ 63))) z (2 ^ 64) (omega arith) in
    fits_from_half (word_of z) r e l

-- ---- congruent numbers

-- a multiple less, and a multiple more
pub multiple_less : (m j : ℕ) (a b : ℤ) → a +ℤ pos (j * m) ≡ b → IsCongruent m a b
multiple_less m zero a b e = (pos 0, omega (arith, ints, e))
multiple_less m (suc j) a b e = (negsuc j, omega (arith, ints, e))

pub multiple_more : (m j : ℕ) (a b : ℤ) → a ≡ b +ℤ pos (j * m) → IsCongruent m a b
multiple_more m j a b e = (pos j, omega (arith, ints, e))

rem_congruent : (m : ℕ) (x : ℤ) → 0 < m → IsCongruent m (int_rem_euclid x (pos m)) x
rem_congruent m (pos a) h = multiple_less m (a / m) (pos (a % m)) (pos a) (omega (arith, ints, div-add-mod' a m))
rem_congruent m (negsuc a) h = multiple_more m (a / m + 1) (pos (m - 1 - a % m)) (negsuc a) (omega (arith, ints, div-add-mod' a m, mod-lt a h))

-- the lowest 64 bits of a number below 0
pub low_congruent : (n : ℕ) → IsCongruent (2 ^ 64) (pos (2 ^ 64 - 1 - n % 2 ^ 64)) (negsuc n)
low_congruent n = rem_congruent (2 ^ 64) (negsuc n) (omega arith)

low_cancels : (low z : ℤ) → low +ℤ (z -ℤ low) ≡ z
low_cancels low z = omega (arith, ints)

module _ (laws : Congruences) where
  pub modulo_congruent : (low z : ℤ) (m : ℕ) → 0 < m → IsCongruent m (low +ℤ int_rem_euclid (z -ℤ low) (pos m)) z
  modulo_congruent low z m h =
      let s = laws.sums m low low (int_rem_euclid (z -ℤ low) (pos m)) (z -ℤ low) (laws.same m low) (rem_congruent m (z -ℤ low) h) in
      let P : ℤ → Type 0 = λ y. IsCongruent m (low +ℤ int_rem_euclid (z -ℤ low) (pos m)) y in
      subst P (low_cancels low z) s

  -- congruent numbers have one word
  pub one_word : (a b : ℤ) → IsCongruent (2 ^ 64) a b → word_of a ≡ word_of b
  one_word a b h =
      let ty : WordTy = record { signed = true; width = 64; has_bits = omega arith; fits_i64 = omega arith } in
      (laws.one_word ty a b).0 h

  -- a number and its word are congruent
  pub word_congruent : (z : ℤ) → IsCongruent (2 ^ 64) (word_of z) z
  word_congruent z = modulo_congruent (neg_ℤ (pos (2 ^ 63))) z (2 ^ 64) (omega arith)

  pub wrapped_congruent : (n : ℕ) → IsCongruent (2 ^ 64) (pos (n % 2 ^ 64)) (pos n)
  wrapped_congruent n = multiple_less (2 ^ 64) (n / 2 ^ 64) (pos (n % 2 ^ 64)) (pos n) (omega (arith, ints, div-add-mod' n (2 ^ 64)))

  fits_congruent : (z : ℤ) → FitsSigned w64 z → IsCongruent (2 ^ 64) (pos (cast_unsigned w64 z)) z
  fits_congruent (pos n) f = laws.same (2 ^ 64) (pos n)
  fits_congruent (negsuc n) f = multiple_more (2 ^ 64) 1 (pos (2 ^ 64 - suc n)) (negsuc n) (omega (arith, ints, f.sfits))

  -- the bits of a number's word
  pub unsigned_congruent : (z : ℤ) → IsCongruent (2 ^ 64) (pos (cast_unsigned w64 (word_of z))) z
  unsigned_congruent z = laws.joined (2 ^ 64) (pos (cast_unsigned w64 (word_of z))) (word_of z) z (fits_congruent (word_of z) (word_is_word z)) (word_congruent z)

  -- a number of bits, wrapped, is the word of each number that is congruent to it
  pub wrapped_word : (n : ℕ) (z : ℤ) → IsCongruent (2 ^ 64) (pos n) z → cast_signed w64 (n % 2 ^ 64) ≡ word_of z
  wrapped_word n z h =
      word_of_unsigned (n % 2 ^ 64) (mod-lt n (omega arith))
      ∙ one_word (pos (n % 2 ^ 64)) z (laws.joined (2 ^ 64) (pos (n % 2 ^ 64)) (pos n) z (wrapped_congruent n) h)
