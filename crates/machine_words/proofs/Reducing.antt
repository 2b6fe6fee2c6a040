-- A word reduced to fewer bits, by a mask or by two shifts.
use Rattle.std.proofs.Common.{◌≡◌, ℕ, suc, ◌+◌, ◌-◌, ◌*◌, ◌/◌, ◌%◌, ◌^◌, ◌<◌, ◌≤◌, true, false, Bool, ℤ, pos, negsuc, neg_ℤ, ◌+ℤ◌, ◌*ℤ◌, FitsSigned, sym, ap, subst, ◌∙◌, arith}
use Rattle.std.proofs.Math.Nat.{mod-lt, mul-div_cancel, mul-lt-mul_of_pos_right, mul-le-mul_right}
use Rattle.std.proofs.Math.Pow.{pow_mono}
use Rattle.std.proofs.lemmas.Nat.{pow_pos, pow-add, and_mask, div-mul-add}
use Rattle.std.proofs.lemmas.Int.{ints}
use borrow.Author.Differences.{up, down}
use Rattle.std.specs.Int.{w64, cast_unsigned, cast_signed, int_bit_and, int_shl, int_shr}
use Rattle.word_arith.specs.declared.word_ty.WordTy.{WordTy}
use Rattle.word_arith.specs.Whole.{IsCongruent}
use Rattle.word_arith.specs.WordTy.{value_modulo}
use Rattle.machine_words.specs.Words.{word_of}
use Rattle.machine_words.proofs.Words.{Congruences, double_half, from_low, modulo_congruent, multiple_less, multiple_more, one_word, unsigned_congruent, word_fits, word_of_unsigned}
use Rattle.machine_words.proofs.Ring.{shift_word}

-- ---- congruence modulo smaller and greater powers of 2

regroup : (j m k : ℕ) → j * (m * k) ≡ j * k * m
regroup j m k = grind arith

fewer_bits : (m k : ℕ) (a b : ℤ) → IsCongruent (m * k) a b → IsCongruent m a b
fewer_bits m k a b h = by h.0 h.1
  where
    by : (j : ℤ) → a ≡ b +ℤ j *ℤ pos (m * k) → IsCongruent m a b
    by (pos j) e = multiple_more m (j * k) a b (e ∙ ap (λ x. b +ℤ pos x) (regroup j m k))
    by (negsuc j) e =
        let back : a +ℤ pos (suc j * (m * k)) ≡ b = omega (arith, ints, e) in
        multiple_less m (suc j * k) a b (sym (ap (λ x. a +ℤ pos x) (regroup (suc j) m k)) ∙ back)

scaled_more : (m k j : ℕ) (a b : ℤ) → a ≡ b +ℤ pos (j * m) → a *ℤ pos k ≡ b *ℤ pos k +ℤ pos (j * (m * k))
scaled_more m k j a b e =
    let sum : up a + down b ≡ up b + j * m + down a = omega (arith, ints, e) in
    let above : (up a + down b) * k ≡ (up b + j * m + down a) * k = ap (λ x. x * k) sum in
    omega (arith, ints, above)

scaled_less : (m k j : ℕ) (a b : ℤ) → a +ℤ pos (j * m) ≡ b → a *ℤ pos k +ℤ pos (j * (m * k)) ≡ b *ℤ pos k
scaled_less m k j a b e = sym (scaled_more m k j b a (sym e))

more_bits : (m k : ℕ) (a b : ℤ) → IsCongruent m a b → IsCongruent (m * k) (a *ℤ pos k) (b *ℤ pos k)
more_bits m k a b h = by h.0 h.1
  where
    by : (j : ℤ) → a ≡ b +ℤ j *ℤ pos m → IsCongruent (m * k) (a *ℤ pos k) (b *ℤ pos k)
    by (pos j) e = multiple_more (m * k) j (a *ℤ pos k) (b *ℤ pos k) (scaled_more m k j a b e)
    by (negsuc j) e =
        let back : a +ℤ pos (suc j * m) ≡ b = omega (arith, ints, e) in
        multiple_less (m * k) (suc j) (a *ℤ pos k) (b *ℤ pos k) (scaled_less m k (suc j) a b back)

whole_power : (n : ℕ) → n ≤ 64 → 2 ^ n * 2 ^ (64 - n) ≡ 2 ^ 64
whole_power n h = let e : n + (64 - n) ≡ 64 = omega arith in sym (pow-add 2 n (64 - n)) ∙ ap (λ x. 2 ^ x) e

-- ---- halves

half_most : (n : ℕ) → 1 ≤ n → n ≤ 64 → 2 ^ (n - 1) ≤ 2 ^ 63
half_most n some few = let le : n - 1 ≤ 63 = omega arith in pow_mono le

half_whole : (n : ℕ) → 1 ≤ n → n ≤ 64 → 2 ^ (n - 1) * 2 ^ (64 - n) ≡ 2 ^ 63
half_whole n some few = let e : n - 1 + (64 - n) ≡ 63 = omega arith in sym (pow-add 2 (n - 1) (64 - n)) ∙ ap (λ x. 2 ^ x) e

-- ---- masks

counted_from_zero : (c m : ℕ) → pos 0 +ℤ pos ((c + 0) % m) ≡ pos (c % m)
counted_from_zero c m =
    let e : c + 0 ≡ c = omega arith in
    let d : (x : ℕ) → pos 0 +ℤ pos x ≡ pos x = λ x. omega (arith, ints) in
    ap (λ x. pos 0 +ℤ pos (x % m)) e ∙ d (c % m)

module _ (laws : Congruences) where
  -- a number and the bits of its word have one value of so few bits
  same_value : (n : ℕ) (z : ℤ) → 1 ≤ n → n ≤ 64 → value_modulo false n (pos (cast_unsigned w64 (word_of z))) ≡ value_modulo false n z
  same_value n z some few =
      let ty : WordTy = record { signed = false; width = n; has_bits = some; fits_i64 = few } in
      let c = pos (cast_unsigned w64 (word_of z)) in
      let P : ℕ → Type 0 = λ m. IsCongruent m c z in
      (laws.one_word ty c z).0 (fewer_bits (2 ^ n) (2 ^ (64 - n)) c z (subst P (sym (whole_power n few)) (unsigned_congruent laws z)))

  pub masked_word : (n : ℕ) (z : ℤ) → 1 ≤ n → n ≤ 63 → int_bit_and w64 (word_of z) (pos (2 ^ n - 1)) ≡ word_of (value_modulo false n z)
  masked_word n z some few =
      let c = cast_unsigned w64 (word_of z) in
      let small : c % 2 ^ n < 2 ^ n = mod-lt c (pow_pos n) in
      let top : 2 ^ n ≤ 2 ^ 63 = pow_mono few in
      ap (cast_signed w64) (and_mask c n)
      ∙ word_of_unsigned (c % 2 ^ n) (omega arith)
      ∙ ap word_of (sym (counted_from_zero c (2 ^ n)) ∙ same_value n z some (omega arith))

  -- a number and its value of 64 bits have one word
  pub whole_word : (signed : Bool) (z : ℤ) → word_of (value_modulo signed 64 z) ≡ word_of z
  whole_word true z = one_word laws (value_modulo true 64 z) z (modulo_congruent laws (neg_ℤ (pos (2 ^ 63))) z (2 ^ 64) (omega arith))
  whole_word false z = one_word laws (value_modulo false 64 z) z (modulo_congruent laws (pos 0) z (2 ^ 64) (omega arith))

  -- ---- two shifts

  shifted_back : (v : ℤ) (k : ℕ) → int_shr (v *ℤ pos (2 ^ k)) k ≡ v
  shifted_back (pos a) k = ap pos (mul-div_cancel a (pow_pos k))
  shifted_back (negsuc a) k =
      let some = pow_pos k in
      let e : negsuc a *ℤ pos (2 ^ k) ≡ negsuc (suc a * 2 ^ k - 1) = omega (arith, ints) in
      let d : (suc a * 2 ^ k - 1) / 2 ^ k ≡ a = below_next a (2 ^ k) some in
      ap (λ x. int_shr x k) e ∙ ap negsuc d
    where
      below_next : (a m : ℕ) → 0 < m → (suc a * m - 1) / m ≡ a
      below_next a m h =
          let last : m - 1 < m = omega arith in
          let e : suc a * m - 1 ≡ a * m + (m - 1) = grind arith in
          ap (λ x. x / m) e ∙ div-mul-add a m (m - 1) last

  value_fits : (n : ℕ) (v : ℤ) (r : ℕ) → 1 ≤ n → n ≤ 64 → v ≡ neg_ℤ (pos (2 ^ (n - 1))) +ℤ pos r → r < 2 ^ n
      → FitsSigned w64 v × FitsSigned w64 (v *ℤ pos (2 ^ (64 - n)))
  value_fits n (pos a) r some few e h =
      let double = double_half n some in
      let below : suc a ≤ 2 ^ (n - 1) = omega (arith, ints, e, double) in
      (record { sfits = omega (arith, half_most n some few, below) }, record { sfits = omega (arith, mul-lt-mul_of_pos_right {k = 2 ^ (64 - n)} below (pow_pos (64 - n)), half_whole n some few) })
  value_fits n (negsuc a) r some few e h =
      let below : suc a ≤ 2 ^ (n - 1) = omega (arith, ints, e, pow_pos (n - 1)) in
      let k = 2 ^ (64 - n) in
      let all = mul-le-mul_right k below in
      let large = mul-le-mul_right k (let one : 1 ≤ suc a = omega arith in one) in
      let is : negsuc a *ℤ pos k ≡ negsuc (suc a * k - 1) = omega (arith, ints, pow_pos (64 - n)) in
      let fits : FitsSigned w64 (negsuc (suc a * k - 1)) = record { sfits = omega (arith, all, large, half_whole n some few, pow_pos (64 - n)) } in
      (record { sfits = omega (arith, half_most n some few, below) }, subst (λ (z : ℤ). FitsSigned w64 z) (sym is) fits)

  pub extended_word : (n : ℕ) (z : ℤ) → 1 ≤ n → n ≤ 64 → int_shr (int_shl w64 (word_of z) (64 - n)) (64 - n) ≡ word_of (value_modulo true n z)
  extended_word n z some few =
      let k = 64 - n in
      let v = value_modulo true n z in
      let (r, e, l) = from_low (neg_ℤ (pos (2 ^ (n - 1)))) z (2 ^ n) (pow_pos n) in
      let (fits, wide) = value_fits n v r some few e l in
      let near = modulo_congruent laws (neg_ℤ (pos (2 ^ (n - 1)))) z (2 ^ n) (pow_pos n) in
      let P : ℕ → Type 0 = λ m. IsCongruent m (v *ℤ pos (2 ^ k)) (z *ℤ pos (2 ^ k)) in
      let same = one_word laws (v *ℤ pos (2 ^ k)) (z *ℤ pos (2 ^ k)) (subst P (whole_power n few) (more_bits (2 ^ n) (2 ^ k) v z near)) in
      ap (λ y. int_shr y k) (shift_word laws z k ∙ sym same ∙ word_fits (v *ℤ pos (2 ^ k)) wide) ∙ shifted_back v k ∙ sym (word_fits v fits)
