-- A number reduced to the values of a type.
use Rattle.std.proofs.Common.{◌≡◌, ℕ, zero, suc, ◌+◌, ◌-◌, ◌/◌, ◌%◌, ◌^◌, ◌<◌, ◌≤◌, Bool, true, false, nat_lt, nat_eq, if◌then◌else◌, [], ◌∷◌, map, ℤ, pos, negsuc, ◌+ℤ◌, ◌-ℤ◌, Some, unsigned_abs, refl, sym, ap, ◌∙◌, arith}
use Rattle.std.proofs.Math.Nat.{mod-lt, mod-eq_of_lt, div-le_self, div-div-eq-div-mul, pow-suc}
use Rattle.std.proofs.Math.Facts.{Fits-of_z}
use Rattle.std.proofs.lemmas.Nat.{pow_pos}
use Rattle.std.proofs.lemmas.Bool.{lt-ltb, ltb-true, ltb-false}
use Rattle.std.proofs.lemmas.Int.{ints, of_z-to_z}
use Rattle.std.specs.Int.{w64, cast_unsigned, cast_signed, int_rem_euclid, int_div_euclid, int_shl, int_shr}
use Rattle.word_arith.specs.WordTy.{value_modulo}
use Rattle.qasm_types.specs.declared.ty.Ty.{Ty}
use Rattle.qasm_types.specs.declared.ty.Ty.TheVariants as t
use Rattle.qasm_types.specs.Values.{Value, is_odd, bits_of, reduced_to}
use Rattle.qir_module.specs.Machine.{Word, Holds, unsigned_word}
use Rattle.qir_module.specs.declared.instruction.Opcode.TheVariants as code
use Rattle.core_ir.specs.Tree.{Expr, Narrow}
use Rattle.core_ir.specs.Run.{Cells, value_of, op_on, value_or_zero, word_in_value}
use Rattle.machine_words.specs.Words.{word_of}
use Rattle.cell_exprs.specs.CellValues.{cells_of_value}
use Rattle.cell_exprs.specs.Parts.{masked, extended, reduced_part, bit_part, bit_parts, reduced_parts}
use Rattle.cell_exprs.specs.Laws.{IsInCells}
use Rattle.cell_exprs.proofs.Numbers.{WordLaws, values, small_word, count_below}

-- a register of at most 64 bits
abbrev pub HasFewBits : Ty → Type 0
HasFewBits (t.Bits n) = n ≤ 64
HasFewBits _ = Unit {0}

-- ---- shifts by amounts in range

pub left_by : (x : ℤ) (k : ℕ) → k < 64 → value_or_zero (op_on code.Shl (Word x) (Word (pos k))) ≡ Word (int_shl w64 x k)
left_by x k h = rw (lt-ltb k 64 h) refl

pub right_by : (x : ℤ) (k : ℕ) → k < 64 → value_or_zero (op_on code.Ashr (Word x) (Word (pos k))) ≡ Word (int_shr x k)
right_by x k h = rw (lt-ltb k 64 h) refl

pub logical_right_by : (x : ℤ) (k : ℕ) → k < 64 → value_or_zero (op_on code.Lshr (Word x) (Word (pos k))) ≡ unsigned_word (cast_unsigned w64 x / 2 ^ k)
logical_right_by x k h = rw (lt-ltb k 64 h) refl

some_is : {A : Type 0} {x y : A} → Some x ≡ Some y → x ≡ y
some_is e = cc

-- ---- halves and bits of numbers

shr_zero : (z : ℤ) → int_shr z 0 ≡ z
shr_zero (pos n) = let e : n / 2 ^ 0 ≡ n = omega arith in ap pos e
shr_zero (negsuc n) = let e : n / 2 ^ 0 ≡ n = omega arith in ap negsuc e

half_shr : (z : ℤ) (k : ℕ) → int_div_euclid (int_shr z k) (pos 2) ≡ int_shr z (suc k)
half_shr (pos n) k = ap pos (div-div-eq-div-mul n (2 ^ k) 2 ∙ ap (λ d. n / d) (sym (pow-suc 2 k)))
half_shr (negsuc n) k = ap negsuc (div-div-eq-div-mul n (2 ^ k) 2 ∙ ap (λ d. n / d) (sym (pow-suc 2 k)))

sub_zero : (z : ℤ) → z -ℤ pos 0 ≡ z
sub_zero z = omega (arith, ints)

count_of_value : (n : ℕ) (z : ℤ) → (value_modulo false n z ≡ pos (unsigned_abs (int_rem_euclid z (pos (2 ^ n))))) × (unsigned_abs (int_rem_euclid z (pos (2 ^ n))) < 2 ^ n)
count_of_value n z = (ap (λ x. pos 0 +ℤ int_rem_euclid x (pos (2 ^ n))) (sub_zero z) ∙ counted z, below z)
  where
    counted : (z : ℤ) → pos 0 +ℤ int_rem_euclid z (pos (2 ^ n)) ≡ pos (unsigned_abs (int_rem_euclid z (pos (2 ^ n))))
    counted (pos a) = omega (arith, ints)
    counted (negsuc a) = omega (arith, ints)

    below : (z : ℤ) → unsigned_abs (int_rem_euclid z (pos (2 ^ n))) < 2 ^ n
    below (pos a) = mod-lt a (pow_pos n)
    below (negsuc a) = omega (arith, pow_pos n)

module _ (laws : WordLaws) (cells : Cells) where
  -- ---- words

  extended_value : (n : ℕ) (z : ℤ) (e : Expr) → 1 ≤ n → n ≤ 64 → value_of e cells ≡ Word (word_of z) → value_of (extended n e) cells ≡ Word (word_of (value_modulo true n z))
  extended_value n z e some few is =
      let k = 64 - n in
      let h : k < 64 = omega arith in
      ap (λ v. value_or_zero (op_on code.Ashr (value_or_zero (op_on code.Shl v (Word (pos k)))) (Word (pos k)))) is
      ∙ ap (λ v. value_or_zero (op_on code.Ashr v (Word (pos k)))) (left_by (word_of z) k h)
      ∙ right_by (int_shl w64 (word_of z) k) k h ∙ ap Word (laws.reduced.extended n z some few)

  masked_value : (n : ℕ) (z : ℤ) (e : Expr) → 1 ≤ n → n ≤ 63 → value_of e cells ≡ Word (word_of z) → value_of (masked n e) cells ≡ Word (word_of (value_modulo false n z))
  masked_value n z e some few is = ap (λ v. value_or_zero (op_on code.And v (Word (pos (2 ^ n - 1))))) is ∙ ap Word (laws.reduced.masked n z some few)

  at_64 : (signed : Bool) (n : ℕ) (z : ℤ) (e : Expr) → n ≡ 64 → value_of e cells ≡ Word (word_of z) → value_of e cells ≡ Word (word_of (value_modulo signed n z))
  at_64 signed n z e same is = is ∙ ap Word (sym (laws.reduced.whole signed z)) ∙ ap (λ m. Word (word_of (value_modulo signed m z))) (sym same)

  where_narrow : (b : Bool) (signed : Bool) (n : ℕ) (z : ℤ) (e less : Expr) → nat_lt n 64 ≡ b → n ≤ 64 → value_of e cells ≡ Word (word_of z)
      → (n < 64 → value_of less cells ≡ Word (word_of (value_modulo signed n z))) → value_of (if b then less else e) cells ≡ Word (word_of (value_modulo signed n z))
  where_narrow true signed n z e less test few is narrow = narrow (ltb-true n 64 test)
  where_narrow false signed n z e less test few is narrow = let h = ltb-false n 64 test in at_64 signed n z e (omega arith) is

  pub int_value : (n : ℕ) (z : ℤ) (e : Expr) → 1 ≤ n → n ≤ 64 → value_of e cells ≡ Word (word_of z) → value_of (reduced_part (t.Int n) e) cells ≡ Word (word_of (value_modulo true n z))
  int_value n z e some few is = where_narrow (nat_lt n 64) true n z e (extended n e) refl few is (λ h. extended_value n z e some few is)

  pub uint_value : (n : ℕ) (z : ℤ) (e : Expr) → 1 ≤ n → n ≤ 64 → value_of e cells ≡ Word (word_of z) → value_of (reduced_part (t.Uint n) e) cells ≡ Word (word_of (value_modulo false n z))
  uint_value n z e some few is = where_narrow (nat_lt n 64) false n z e (masked n e) refl few is (λ h. masked_value n z e some (omega arith) is)

  pub angle_value : (n : ℕ) (z : ℤ) (e : Expr) → 1 ≤ n → n ≤ 32 → value_of e cells ≡ Word (word_of z)
      → value_of (reduced_part (t.Angle n) e) cells ≡ Word (pos (unsigned_abs (int_rem_euclid z (pos (2 ^ n)))))
  angle_value n z e some few is =
      let r = unsigned_abs (int_rem_euclid z (pos (2 ^ n))) in
      let (same, below) = count_of_value n z in
      let small = count_below n r few below in
      masked_value n z e some (omega arith) is ∙ ap (λ x. Word (word_of x)) same ∙ ap Word (small_word laws cells r (omega arith))

  -- ---- bits

  narrow_value : (e : Expr) (z : ℤ) → value_of e cells ≡ Word (word_of z) → value_of (Narrow e) cells ≡ Holds (is_odd z)
  narrow_value e z is = ap (λ v. Holds (nat_eq (cast_unsigned w64 (word_in_value v) % 2) 1)) is ∙ ap Holds (laws.reduced.odd z)

  low_bit_of : (q : ℕ) → q < 2 ^ 64 → cast_unsigned w64 (word_in_value (unsigned_word q)) ≡ q
  low_bit_of q h = ap (λ m. cast_unsigned w64 (cast_signed w64 m)) (mod-eq_of_lt h) ∙ of_z-to_z w64 q h

  bit_value : (e : Expr) (z : ℤ) (k : ℕ) → k < 64 → value_of e cells ≡ Word (word_of z) → value_of (bit_part k e) cells ≡ Holds (is_odd (int_shr z k))
  bit_value e z zero h is = narrow_value e z is ∙ ap (λ x. Holds (is_odd x)) (sym (shr_zero z))
  bit_value e z (suc k) h is =
      let c = cast_unsigned w64 (word_of z) in
      let below = (Fits-of_z {w = w64} (laws.kept.fit z)).fits in
      let less = div-le_self c (2 ^ suc k) in
      ap (λ v. Holds (nat_eq (cast_unsigned w64 (word_in_value (value_or_zero (op_on code.Lshr v (Word (pos (suc k)))))) % 2) 1)) is
      ∙ ap (λ v. Holds (nat_eq (cast_unsigned w64 (word_in_value v) % 2) 1)) (logical_right_by (word_of z) (suc k) h)
      ∙ ap (λ m. Holds (nat_eq (m % 2) 1)) (low_bit_of (c / 2 ^ suc k) (omega arith))
      ∙ ap Holds (laws.reduced.bits z (suc k) h)

  bits_value : (n k : ℕ) (e : Expr) (z : ℤ) → k + n ≤ 64 → value_of e cells ≡ Word (word_of z) → values cells (bit_parts k n e) ≡ map Holds (bits_of n (int_shr z k))
  bits_value zero k e z h is = refl
  bits_value (suc n) k e z h is =
      let first = bit_value e z k (omega arith) is in
      let rest = bits_value n (suc k) e z (omega arith) is in
      (λ i. first i ∷ rest i) ∙ ap (λ x. Holds (is_odd (int_shr z k)) ∷ map Holds (bits_of n x)) (sym (half_shr z k))

  -- ---- the parts of the value of a type to which a number reduces

  pub reduced_value : (b : Ty) (z : ℤ) (e : Expr) (y : Value) → IsInCells b → HasFewBits b → value_of e cells ≡ Word (word_of z) → reduced_to b z ≡ Some y
      → values cells (reduced_parts b e) ≡ cells_of_value y
  reduced_value t.Bool z e y h few is to = ap (λ v. v ∷ []) (narrow_value e z is) ∙ ap cells_of_value (some_is to)
  reduced_value t.Bit z e y h few is to = ap (λ v. v ∷ []) (narrow_value e z is) ∙ ap cells_of_value (some_is to)
  reduced_value (t.Bits n) z e y h few is to = bits_value n 0 e z (omega (arith, few)) is ∙ ap (λ x. map Holds (bits_of n x)) (shr_zero z) ∙ ap cells_of_value (some_is to)
  reduced_value (t.Int n) z e y h few is to = ap (λ v. v ∷ []) (int_value n z e h.0 h.1 is) ∙ ap cells_of_value (some_is to)
  reduced_value (t.Uint n) z e y h few is to = ap (λ v. v ∷ []) (uint_value n z e h.0 h.1 is) ∙ ap cells_of_value (some_is to)
  reduced_value (t.Angle n) z e y h few is to = ap (λ v. v ∷ []) (angle_value n z e h.0 h.1 is) ∙ ap cells_of_value (some_is to)
  reduced_value t.Turn z e y h few is to = ap (λ v. v ∷ []) is ∙ ap cells_of_value (some_is to)
  reduced_value t.Whole z e y h few is to = absurd h
  reduced_value t.Pi z e y h few is to = absurd h
