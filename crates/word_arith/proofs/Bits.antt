-- Bits of whole numbers and of words, and what an operation that works bit by bit gives.
use Rattle.std.proofs.Common.{◌≡◌, ℕ, zero, suc, ◌+◌, ◌-◌, ◌/◌, ◌%◌, ◌^◌, ◌<◌, ◌≤◌, min, max, Bool, true, false, cond, ℤ, pos, negsuc, FitsSigned, refl, sym, ap, subst, ◌∙◌, ⊎_elim, arith}
use Rattle.std.proofs.Math.Nat.{pow-suc, mod-lt}
use Rattle.std.proofs.lemmas.Nat.{pow_pos, and_assoc, shr_split}
use Rattle.std.proofs.lemmas.Nat.Bits.{bit_at-lt, bit_at_and, bit_at_or, bit_at_xor, bit_at_above, bit_at_cat_low, bit_at_not, same_from_bits}
use Rattle.std.proofs.lemmas.Int.{ints, of_z-to_z}
use Rattle.std.proofs.lemmas.Bool.{cases_lt}
use Rattle.std.specs.Int.{Width, w64, cast_unsigned, cast_signed, bit_at, bit_not}
use Rattle.std.specs.Int.Bits.{bit_and, bit_xor, xor_add_and, and_self}
use Rattle.std.specs.Int.Signed.{mag}
use Rattle.word_arith.specs.declared.word_ty.WordTy.{WordTy}
use Rattle.word_arith.specs.Whole.{int_bit_at, bit_and_not, int_and, int_or, int_xor}
use Rattle.word_arith.specs.WordTy.{value_of, IsValue, IsWord, reduced}
use mir.Val.{bits, hbits}
use mir.ValLaws.{of_z_fits, to_z-Fits}
use Rattle.std.proofs.Math.Pow.{pow_mono}
use Rattle.word_arith.proofs.Congruence.{hbits-bits}
use Rattle.word_arith.proofs.Reduction.{bounds-signed, bounds-unsigned, value_of-unsigned, reduced-value}

-- ---- the bits of the operations on whole numbers

bit_and_not_is : (m n : ℕ) → bit_and_not m n ≡ bit_xor m (bit_and m n)
bit_and_not_is m n =
    let common : bit_and m (bit_and m n) ≡ bit_and m n = sym (and_assoc n m m) ∙ ap (λ x. bit_and x n) (and_self m) in
    omega (arith, xor_add_and m (bit_and m n), common)

bit_at-bit_and_not : (m n i : ℕ) → bit_at (bit_and_not m n) i ≡ min (bit_at m i) (1 - bit_at n i)
bit_at-bit_and_not m n i =
    ap (λ x. bit_at x i) (bit_and_not_is m n)
    ∙ omega (arith, bit_at_xor m (bit_and m n) i, bit_at_and m n i, bit_at-lt m i, bit_at-lt n i)

pub int_bit_at-and : (x y : ℤ) (i : ℕ) → int_bit_at (int_and x y) i ≡ min (int_bit_at x i) (int_bit_at y i)
int_bit_at-and (pos m) (pos n) i = bit_at_and m n i
int_bit_at-and (pos m) (negsuc n) i = bit_at-bit_and_not m n i
int_bit_at-and (negsuc m) (pos n) i = omega (arith, bit_at-bit_and_not n m i)
int_bit_at-and (negsuc m) (negsuc n) i = omega (arith, bit_at_or m n i)

pub int_bit_at-or : (x y : ℤ) (i : ℕ) → int_bit_at (int_or x y) i ≡ max (int_bit_at x i) (int_bit_at y i)
int_bit_at-or (pos m) (pos n) i = bit_at_or m n i
int_bit_at-or (pos m) (negsuc n) i = omega (arith, bit_at-bit_and_not n m i, bit_at-lt m i, bit_at-lt n i)
int_bit_at-or (negsuc m) (pos n) i = omega (arith, bit_at-bit_and_not m n i, bit_at-lt m i, bit_at-lt n i)
int_bit_at-or (negsuc m) (negsuc n) i = omega (arith, bit_at_and m n i)

pub int_bit_at-xor : (x y : ℤ) (i : ℕ) → int_bit_at (int_xor x y) i ≡ (int_bit_at x i + int_bit_at y i) % 2
int_bit_at-xor (pos m) (pos n) i = bit_at_xor m n i
int_bit_at-xor (pos m) (negsuc n) i = omega (arith, bit_at_xor m n i, bit_at-lt m i, bit_at-lt n i)
int_bit_at-xor (negsuc m) (pos n) i = omega (arith, bit_at_xor m n i, bit_at-lt m i, bit_at-lt n i)
int_bit_at-xor (negsuc m) (negsuc n) i = omega (arith, bit_at_xor m n i, bit_at-lt m i, bit_at-lt n i)

-- ---- a number by its bits

below_pow : (n : ℕ) → n < 2 ^ n
below_pow zero = omega arith
below_pow (suc n) = omega (arith, below_pow n, pow-suc 2 n)

-- from some bit on the bits of m are 0 and those of -(n + 1) are 1
apart : (m n : ℕ) → ((i : ℕ) → bit_at m i ≡ 1 - bit_at n i) → ⊥
apart m n h =
    let i = m + n in
    let high = below_pow i in
    omega (arith, h i, bit_at_above m i i (omega arith) (omega arith), bit_at_above n i i (omega arith) (omega arith))

same_from_int_bits : (x y : ℤ) → ((i : ℕ) → int_bit_at x i ≡ int_bit_at y i) → x ≡ y
same_from_int_bits (pos m) (pos n) h = ap pos (same_from_bits m n h)
same_from_int_bits (pos m) (negsuc n) h = absurd (apart m n h)
same_from_int_bits (negsuc m) (pos n) h = absurd (apart n m (λ i. sym (h i)))
same_from_int_bits (negsuc m) (negsuc n) h = ap negsuc (same_from_bits m n (λ i. omega (arith, h i, bit_at-lt m i, bit_at-lt n i)))

-- a number from -2 ^ k below 2 ^ k has one bit from bit k on, the sign, and only such a number has
steady_from_mag : (k : ℕ) (v : ℤ) → mag v < 2 ^ k → (i : ℕ) → k ≤ i → int_bit_at v i ≡ int_bit_at v k
steady_from_mag k (pos n) h i l = bit_at_above n k i h l ∙ sym (bit_at_above n k k h (omega arith))
steady_from_mag k (negsuc n) h i l = omega (arith, bit_at_above n k i h l, bit_at_above n k k h (omega arith))

below_from_bits : (k n : ℕ) → ((i : ℕ) → k ≤ i → bit_at n i ≡ bit_at n k) → n < 2 ^ k
below_from_bits k n h =
    let low = n % 2 ^ k in
    let small = mod-lt n (pow_pos k) in
    let high = below_pow (k + n) in
    let top = bit_at_above n (k + n) (k + n) (omega arith) (omega arith) in
    let none : bit_at n k ≡ 0 = sym (h (k + n) (omega arith)) ∙ top in
    let each : (i : ℕ) → bit_at n i ≡ bit_at low i = λ i. ⊎_elim
    (λ l. ap (λ x. bit_at x i) (sym (shr_split n k)) ∙ bit_at_cat_low (n / 2 ^ k) k low i l)
    (λ l. h i l ∙ none ∙ sym (bit_at_above low k i small l)) (cases_lt i k) in
    subst (λ x. x < 2 ^ k) (sym (same_from_bits n low each)) small

mag_from_steady : (k : ℕ) (v : ℤ) → ((i : ℕ) → k ≤ i → int_bit_at v i ≡ int_bit_at v k) → mag v < 2 ^ k
mag_from_steady k (pos n) h = below_from_bits k n h
mag_from_steady k (negsuc n) h = below_from_bits k n (λ i l. omega (arith, h i l, bit_at-lt n i, bit_at-lt n k))

-- ---- the bits of a signed number of w bits: from its highest bit on they are its sign

bit_at-steady : (k n i : ℕ) → n < 2 ^ k → bit_at n i ≡ bit_at n (min i k)
bit_at-steady k n i h = ⊎_elim
    (λ l. let e : i ≡ min i k = omega arith in ap (bit_at n) e)
    (λ l. let e : k ≡ min i k = omega arith in bit_at_above n k i h l ∙ sym (bit_at_above n k k h (omega arith)) ∙ ap (bit_at n) e) (cases_lt i k)

int_bit_at-signed : (w : Width) (z : ℤ) (i : ℕ) → FitsSigned w z → int_bit_at z i ≡ bit_at (cast_unsigned w z) (min i (hbits w))
int_bit_at-signed w (pos n) i f = bit_at-steady (hbits w) n i f.sfits
int_bit_at-signed w (negsuc n) i f =
    let top = hbits-bits w in
    let below : hbits w ≤ bits w = omega (arith, top) in
    let more = pow_mono below in
    let small = f.sfits in
    let fits : n < 2 ^ bits w = omega (arith, small, more) in
    let whole : 2 ^ bits w - suc n ≡ bit_not w n = omega arith in
    ap (λ x. 1 - x) (bit_at-steady (hbits w) n i small)
    ∙ sym (bit_at_not w n (min i (hbits w)) fits (omega (arith, top)))
    ∙ ap (λ x. bit_at x (min i (hbits w))) (sym whole)

int_bit_at-cast : (w : Width) (n i : ℕ) → n < 2 ^ bits w → int_bit_at (cast_signed w n) i ≡ bit_at n (min i (hbits w))
int_bit_at-cast w n i h =
    int_bit_at-signed w (cast_signed w n) i (to_z-Fits w n (record { fits = h })) ∙ ap (λ x. bit_at x (min i (hbits w))) (of_z-to_z w n h)

-- ---- the values of a type by their size: those of a signed type of n bits need n - 1 bits beside the sign

mag_from_value : (ty : WordTy) (v : ℤ) → ty.signed ≡ true → IsValue ty v → mag v < 2 ^ (ty.width - 1)
mag_from_value ty (pos n) s h = omega (arith, ints, (bounds-signed ty s).1, h.1, pow_pos (ty.width - 1))
mag_from_value ty (negsuc n) s h = omega (arith, ints, (bounds-signed ty s).0, h.0)

value_from_mag : (ty : WordTy) (v : ℤ) → ty.signed ≡ true → mag v < 2 ^ (ty.width - 1) → IsValue ty v
value_from_mag ty v s h = (omega (arith, ints, (bounds-signed ty s).0), omega (arith, ints, (bounds-signed ty s).1))

below_from_value : (ty : WordTy) (n : ℕ) → ty.signed ≡ false → IsValue ty (pos n) → n < 2 ^ ty.width
below_from_value ty n s h = omega (arith, ints, (bounds-unsigned ty s).1, h.1, pow_pos ty.width)

value_from_below : (ty : WordTy) (n : ℕ) → ty.signed ≡ false → n < 2 ^ ty.width → IsValue ty (pos n)
value_from_below ty n s h = (omega (arith, ints, (bounds-unsigned ty s).0), omega (arith, ints, (bounds-unsigned ty s).1))

-- ---- an operation on the bits of two signed numbers of w bits, whose bit is g of their bits, is that on whole numbers

pub whole_from_bits : (op g : ℕ → ℕ → ℕ) → ((m n i : ℕ) → bit_at (op m n) i ≡ g (bit_at m i) (bit_at n i))
    → ((k m n : ℕ) → m < 2 ^ k → n < 2 ^ k → op m n < 2 ^ k)
    → (whole : ℤ → ℤ → ℤ) → ((x y : ℤ) (i : ℕ) → int_bit_at (whole x y) i ≡ g (int_bit_at x i) (int_bit_at y i))
    → (w : Width) (a b : ℤ) → FitsSigned w a → FitsSigned w b → cast_signed w (op (cast_unsigned w a) (cast_unsigned w b)) ≡ whole a b
whole_from_bits op g law bound whole each w a b fits_a fits_b =
    let m = cast_unsigned w a in
    let n = cast_unsigned w b in
    let small = bound (bits w) m n (of_z_fits w a fits_a).fits (of_z_fits w b fits_b).fits in
    same_from_int_bits _ _ (λ i. int_bit_at-cast w (op m n) i small ∙ law m n (min i (hbits w))
    ∙ (λ t. g (sym (int_bit_at-signed w a i fits_a) t) (sym (int_bit_at-signed w b i fits_b) t)) ∙ sym (each a b i))

-- ---- the same on the bits of two i64 words

module _ (op g : ℕ → ℕ → ℕ)
    (law : (m n i : ℕ) → bit_at (op m n) i ≡ g (bit_at m i) (bit_at n i))
    (bound : (k m n : ℕ) → m < 2 ^ k → n < 2 ^ k → op m n < 2 ^ k)
    (ty : WordTy) (a b : ℤ) (fits_a : FitsSigned w64 a) (fits_b : FitsSigned w64 b) where
  pub bits_of_word : (i : ℕ) → int_bit_at (value_of ty (cast_signed w64 (op (cast_unsigned w64 a) (cast_unsigned w64 b)))) i ≡ g (int_bit_at (value_of ty a) i) (int_bit_at (value_of ty b) i)
  bits_of_word i = by ty.signed
    where
      m : ℕ
      m = cast_unsigned w64 a

      n : ℕ
      n = cast_unsigned w64 b

      small : op m n < 2 ^ 64
      small = bound 64 m n (of_z_fits w64 a fits_a).fits (of_z_fits w64 b fits_b).fits

      by : (s : Bool) → int_bit_at (cond s (cast_signed w64 (op m n)) (pos (cast_unsigned w64 (cast_signed w64 (op m n))))) i ≡ g (int_bit_at (cond s a (pos m)) i) (int_bit_at (cond s b (pos n)) i)
      by true =
          int_bit_at-cast w64 (op m n) i small ∙ law m n (min i 63)
          ∙ (λ t. g (sym (int_bit_at-signed w64 a i fits_a) t) (sym (int_bit_at-signed w64 b i fits_b) t))
      by false = ap (λ x. bit_at x i) (of_z-to_z w64 (op m n) small) ∙ law m n i

  pub word_of_bits : IsWord ty a → IsWord ty b → IsWord ty (cast_signed w64 (op (cast_unsigned w64 a) (cast_unsigned w64 b)))
  word_of_bits word_a word_b = by ty.signed refl
    where
      by : (s : Bool) → ty.signed ≡ s → IsWord ty (cast_signed w64 (op (cast_unsigned w64 a) (cast_unsigned w64 b)))
      by true s =
          let k = ty.width - 1 in
          let steady_a = steady_from_mag k (value_of ty a) (mag_from_value ty (value_of ty a) s word_a) in
          let steady_b = steady_from_mag k (value_of ty b) (mag_from_value ty (value_of ty b) s word_b) in
          value_from_mag ty _ s (mag_from_steady k _ (λ i l. bits_of_word i ∙ (λ t. g (steady_a i l t) (steady_b i l t)) ∙ sym (bits_of_word k)))
      by false s =
          let m = cast_unsigned w64 a in
          let n = cast_unsigned w64 b in
          let small = bound 64 m n (of_z_fits w64 a fits_a).fits (of_z_fits w64 b fits_b).fits in
          let worth : value_of ty (cast_signed w64 (op m n)) ≡ pos (op m n) = value_of-unsigned ty _ s ∙ ap pos (of_z-to_z w64 (op m n) small) in
          let below_a = below_from_value ty m s (subst (λ (v : ℤ). IsValue ty v) (value_of-unsigned ty a s) word_a) in
          let below_b = below_from_value ty n s (subst (λ (v : ℤ). IsValue ty v) (value_of-unsigned ty b s) word_b) in
          subst (λ (v : ℤ). IsValue ty v) (sym worth) (value_from_below ty (op m n) s (bound ty.width m n below_a below_b))

  pub value_of_bits : (whole : ℤ → ℤ → ℤ) → ((x y : ℤ) (i : ℕ) → int_bit_at (whole x y) i ≡ g (int_bit_at x i) (int_bit_at y i)) → IsWord ty a → IsWord ty b
      → value_of ty (cast_signed w64 (op (cast_unsigned w64 a) (cast_unsigned w64 b))) ≡ reduced ty (whole (value_of ty a) (value_of ty b))
  value_of_bits whole each word_a word_b =
      let r = value_of ty (cast_signed w64 (op (cast_unsigned w64 a) (cast_unsigned w64 b))) in
      let same : r ≡ whole (value_of ty a) (value_of ty b) = same_from_int_bits _ _ (λ i. bits_of_word i ∙ sym (each (value_of ty a) (value_of ty b) i)) in
      reduced-value ty r (word_of_bits word_a word_b) ∙ ap (reduced ty) same
