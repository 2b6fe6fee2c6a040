-- Divisors and amounts: operators on a value and a whole constant.
use Rattle.std.proofs.Common.{◌≡◌, ℕ, zero, suc, ◌+◌, ◌*◌, ◌/◌, ◌^◌, ◌<◌, ◌≤◌, Bool, true, false, min, List, [], ◌∷◌, ◌++◌, length, map, take, drop, replicate, ℤ, pos, negsuc, ◌*ℤ◌, FitsSigned, int_div, int_rem, Some, refl, sym, ap, subst, ◌∙◌, arith}
use Rattle.std.proofs.Math.Nat.{pow-suc, div-div-eq-div-mul, pow-succ'}
use Rattle.std.proofs.lemmas.Nat.{pow_pos}
use Rattle.std.proofs.lemmas.Bool.{le-ltb}
use Rattle.std.proofs.lemmas.Int.{ints}
use Rattle.std.proofs.lemmas.List.{length-drop, length-map, map-append, take-map, drop-map}
use Rattle.std.specs.Int.{w64, int_div_euclid, int_shr}
use Rattle.std.specs.Option.{option_and_then}
use Rattle.std.specs.Ordering.{int_eq}
use Rattle.qasm_ast.specs.declared.expr.BinaryOp.{BinaryOp}
use Rattle.qasm_ast.specs.declared.expr.BinaryOp.TheVariants as op
use Rattle.qasm_types.specs.declared.ty.Ty.{Ty}
use Rattle.qasm_types.specs.declared.ty.Ty.TheVariants as t
use Rattle.qasm_types.specs.Types.{IsType}
use Rattle.qasm_types.specs.Values.{Value, Register, Number, Count, Units, IsValueOf, number_of, number_of_truth, number_of_bits, is_odd, bits_of, reduced_to, result_on_numbers}
use Rattle.qir_module.specs.Machine.{Word, Holds}
use Rattle.qir_module.specs.declared.instruction.Opcode.{Opcode}
use Rattle.qir_module.specs.declared.instruction.Opcode.TheVariants as code
use Rattle.core_ir.specs.Tree.{Expr, Op}
use Rattle.core_ir.specs.Tree as tree
use Rattle.core_ir.specs.Run.{Cells, value_of, op_on, value_or_zero}
use Rattle.machine_words.specs.Words.{word_of}
use Rattle.cell_exprs.specs.Parts.{single_part, word_code, reduced_part, scaled_parts}
use Rattle.cell_exprs.specs.Laws.{HaveValue, IsInCells, OperatorResult, IsShift, ScaleFits, IsOneWord}
use Rattle.cell_exprs.proofs.Numbers.{WordLaws, values, single_value, int_fits, uint_below, count_below, small_word}
use Rattle.cell_exprs.proofs.Reducing.{left_by, right_by, logical_right_by}
use Rattle.cell_exprs.proofs.Casting.{odd_first, half_rest, bits_again}
use Rattle.cell_exprs.proofs.Deciding.{int_code, turn_code, uint_code, angle_code}
use Rattle.cell_exprs.proofs.Computing.{is_one_word, value_is_no_part, applied_number, reduced_some, settled_value}

-- ---- a result on whole numbers

abbrev scaled_on : BinaryOp → ℤ → ℕ → ℤ
scaled_on op.Divide z k = int_div z (pos k)
scaled_on op.Remainder z k = int_rem z (pos k)
scaled_on op.ShiftLeft z k = z *ℤ pos (2 ^ k)
scaled_on _ z k = int_shr z k

shr_is_quotient : (z : ℤ) (k : ℕ) → int_shr z k ≡ int_div_euclid z (pos (2 ^ k))
shr_is_quotient (pos n) k = refl
shr_is_quotient (negsuc n) k = refl

some_divisor : (k : ℕ) → 1 ≤ k → int_eq (pos k) (pos 0) ≡ false
some_divisor k h = grind (arith, ints)

scaled_result : (o : BinaryOp) (m : Ty) (z : ℤ) (k : ℕ) → ScaleFits o k → result_on_numbers o z (pos k) ≡ Some (scaled_on o z k)
scaled_result op.Divide m z k h = rw (some_divisor k h.0) refl
scaled_result op.Remainder m z k h = rw (some_divisor k h.0) refl
scaled_result op.ShiftLeft m z k h = rw (le-ltb k 0 (omega arith)) refl
scaled_result op.ShiftRight m z k h = rw (le-ltb k 0 (omega arith)) (ap Some (sym (shr_is_quotient z k)))
scaled_result _ m z k h = absurd h

module _ (laws : WordLaws) (cells : Cells) where
  -- the instruction on a signed word, and on an unsigned one
  signed_instruction : (o : BinaryOp) (ex : Expr) (z : ℤ) (k : ℕ) → ScaleFits o k → FitsSigned w64 z → value_of ex cells ≡ Word (word_of z)
      → value_of (Op (word_code o (t.Int 64)) ex (tree.Number (pos k))) cells ≡ Word (word_of (scaled_on o z k))
  signed_instruction op.Divide ex z zero h f p = absurd (omega (arith, h.0))
  signed_instruction op.Divide ex z (suc k) h f p = ap (λ v. value_or_zero (op_on code.Sdiv v (Word (pos (suc k))))) p ∙ ap Word (laws.signed.quotients z (suc k) f (omega arith))
  signed_instruction op.Remainder ex z zero h f p = absurd (omega (arith, h.0))
  signed_instruction op.Remainder ex z (suc k) h f p = ap (λ v. value_or_zero (op_on code.Srem v (Word (pos (suc k))))) p ∙ ap Word (laws.signed.rests z (suc k) f (omega arith) h.1)
  signed_instruction op.ShiftLeft ex z k h f p = ap (λ v. value_or_zero (op_on code.Shl v (Word (pos k)))) p ∙ left_by (word_of z) k h ∙ ap Word (laws.exact.left z k)
  signed_instruction op.ShiftRight ex z k h f p = ap (λ v. value_or_zero (op_on code.Ashr v (Word (pos k)))) p ∙ right_by (word_of z) k h ∙ ap Word (laws.signed.right z k f)
  signed_instruction _ ex z k h f p = absurd h

  unsigned_instruction : (o : BinaryOp) (ex : Expr) (n k : ℕ) → ScaleFits o k → n < 2 ^ 64 → value_of ex cells ≡ Word (word_of (pos n))
      → value_of (Op (word_code o (t.Uint 64)) ex (tree.Number (pos k))) cells ≡ Word (word_of (scaled_on o (pos n) k))
  unsigned_instruction op.Divide ex n zero h f p = absurd (omega (arith, h.0))
  unsigned_instruction op.Divide ex n (suc k) h f p = ap (λ v. value_or_zero (op_on code.Udiv v (Word (pos (suc k))))) p ∙ laws.unsigned.quotients n (suc k) f
  unsigned_instruction op.Remainder ex n zero h f p = absurd (omega (arith, h.0))
  unsigned_instruction op.Remainder ex n (suc k) h f p = ap (λ v. value_or_zero (op_on code.Urem v (Word (pos (suc k))))) p ∙ laws.unsigned.rests n (suc k) f
  unsigned_instruction op.ShiftLeft ex n k h f p = ap (λ v. value_or_zero (op_on code.Shl v (Word (pos k)))) p ∙ left_by (word_of (pos n)) k h ∙ ap Word (laws.exact.left (pos n) k)
  unsigned_instruction op.ShiftRight ex n k h f p = ap (λ v. value_or_zero (op_on code.Lshr v (Word (pos k)))) p ∙ logical_right_by (word_of (pos n)) k h ∙ laws.unsigned.quotients n (2 ^ k) f
  unsigned_instruction _ ex n k h f p = absurd h

  -- the instruction on a value of a type
  int_scaled : (o : BinaryOp) (n : ℕ) (x : Value) (xs : List Expr) (k : ℕ) → ScaleFits o k → IsType (t.Int n) → IsValueOf (t.Int n) x → HaveValue cells xs x
      → value_of (Op (word_code o (t.Int n)) (single_part xs) (tree.Number (pos k))) cells ≡ Word (word_of (scaled_on o (number_of x) k))
  int_scaled o n (Number z) xs k h ty v p =
      let P : Opcode → Type 0 = λ w. value_of (Op w (single_part xs) (tree.Number (pos k))) cells ≡ Word (word_of (scaled_on o (z) k)) in
      subst P (int_code o n) (signed_instruction o (single_part xs) z k h (int_fits n z ty.0 ty.1 v.0 v.1) (single_value cells xs (Word (word_of z)) p))
  int_scaled o n _ xs k h ty v p = absurd v

  turn_scaled : (o : BinaryOp) (x : Value) (xs : List Expr) (k : ℕ) → ScaleFits o k → IsValueOf t.Turn x → HaveValue cells xs x
      → value_of (Op (word_code o t.Turn) (single_part xs) (tree.Number (pos k))) cells ≡ Word (word_of (scaled_on o (number_of x) k))
  turn_scaled o (Units z) xs k h v p =
      let some : 1 ≤ 64 = omega arith in
      let few : 64 ≤ 64 = omega arith in
      let f = int_fits 64 z some few v.0 v.1 in
      let P : Opcode → Type 0 = λ w. value_of (Op w (single_part xs) (tree.Number (pos k))) cells ≡ Word (word_of (scaled_on o (z) k)) in
      subst P (turn_code o) (signed_instruction o (single_part xs) z k h f (single_value cells xs (Word z) p ∙ ap Word (sym (laws.kept.words z f))))
  turn_scaled o _ xs k h v p = absurd v

  uint_scaled : (o : BinaryOp) (n : ℕ) (x : Value) (xs : List Expr) (k : ℕ) → ScaleFits o k → IsType (t.Uint n) → IsValueOf (t.Uint n) x → HaveValue cells xs x
      → value_of (Op (word_code o (t.Uint n)) (single_part xs) (tree.Number (pos k))) cells ≡ Word (word_of (scaled_on o (number_of x) k))
  uint_scaled o n (Number (pos m)) xs k h ty v p =
      let P : Opcode → Type 0 = λ w. value_of (Op w (single_part xs) (tree.Number (pos k))) cells ≡ Word (word_of (scaled_on o (pos m) k)) in
      subst P (uint_code o n) (unsigned_instruction o (single_part xs) m k h (uint_below n m ty.1 v.1) (single_value cells xs (Word (word_of (pos m))) p))
  uint_scaled o n (Number (negsuc m)) xs k h ty v p = absurd (omega (arith, ints, v.0))
  uint_scaled o n _ xs k h ty v p = absurd v

  angle_scaled : (o : BinaryOp) (n : ℕ) (x : Value) (xs : List Expr) (k : ℕ) → ScaleFits o k → IsType (t.Angle n) → IsValueOf (t.Angle n) x → HaveValue cells xs x
      → value_of (Op (word_code o (t.Angle n)) (single_part xs) (tree.Number (pos k))) cells ≡ Word (word_of (scaled_on o (number_of x) k))
  angle_scaled o n (Count c) xs k h ty v p =
      let few = count_below n c ty.1 v in
      let P : Opcode → Type 0 = λ w. value_of (Op w (single_part xs) (tree.Number (pos k))) cells ≡ Word (word_of (scaled_on o (pos c) k)) in
      subst P (angle_code o n) (unsigned_instruction o (single_part xs) c k h (omega arith) (single_value cells xs (Word (pos c)) p ∙ ap Word (sym (small_word laws cells c (omega arith)))))
  angle_scaled o n _ xs k h ty v p = absurd v

  word_scaled : (o : BinaryOp) (m : Ty) (k : ℕ) (x : Value) (xs : List Expr) → ScaleFits o k → is_one_word m ≡ true → IsInCells m → IsValueOf m x
      → value_of (Op (word_code o m) (single_part xs) (tree.Number (pos k))) cells ≡ Word (word_of (scaled_on o (number_of x) k))
      → OperatorResult cells o m x (Number (pos k)) (reduced_part m (Op (word_code o m) (single_part xs) (tree.Number (pos k))) ∷ [])
  word_scaled o m k x xs h w c v is =
      let n = scaled_on o (number_of x) k in
      let (z, to) = reduced_some m n c in (
        z,
        applied_number o m x (Number (pos k)) (value_is_no_part m x w v) tt c w ∙ ap (option_and_then (reduced_to m)) (scaled_result o m (number_of x) k h) ∙ to,
        settled_value laws cells m (Op (word_code o m) (single_part xs) (tree.Number (pos k))) n z c w is to,
      )

  pub scaled_value : (o : BinaryOp) (m : Ty) (k : ℕ) (x : Value) (xs : List Expr) → ScaleFits o k → is_one_word m ≡ true → IsInCells m → IsValueOf m x → HaveValue cells xs x
      → OperatorResult cells o m x (Number (pos k)) (scaled_parts o m xs k)
  scaled_value o (t.Int n) k x xs h w c v p = word_scaled o (t.Int n) k x xs h w c v (int_scaled o n x xs k h c v p)
  scaled_value o (t.Uint n) k x xs h w c v p = word_scaled o (t.Uint n) k x xs h w c v (uint_scaled o n x xs k h c v p)
  scaled_value o (t.Angle n) k x xs h w c v p = word_scaled o (t.Angle n) k x xs h w c v (angle_scaled o n x xs k h c v p)
  scaled_value o t.Turn k x xs h w c v p = word_scaled o t.Turn k x xs h w c v (turn_scaled o x xs k h v p)
  scaled_value o t.Whole k x xs h w c v p = absurd c
  scaled_value o t.Pi k x xs h w c v p = absurd c
  scaled_value o _ k x xs h w c v p = absurd cc

  pub scaled_by_kind : (o : BinaryOp) (m : Ty) (k : ℕ) (x : Value) (xs : List Expr) → ScaleFits o k → IsOneWord m → IsValueOf m x → HaveValue cells xs x
      → OperatorResult cells o m x (Number (pos k)) (scaled_parts o m xs k)
  scaled_by_kind o (t.Int n) k x xs h w v p = scaled_value o (t.Int n) k x xs h refl w v p
  scaled_by_kind o (t.Uint n) k x xs h w v p = scaled_value o (t.Uint n) k x xs h refl w v p
  scaled_by_kind o (t.Angle n) k x xs h w v p = scaled_value o (t.Angle n) k x xs h refl w v p
  scaled_by_kind o t.Turn k x xs h w v p = let one : 1 ≤ 1 = omega arith in scaled_value o t.Turn k x xs h refl (one, one) v p
  scaled_by_kind o _ k x xs h w v p = absurd w

-- ---- registers that are shifted

bits_of_zero : (n : ℕ) → bits_of n (pos 0) ≡ replicate n false
bits_of_zero zero = refl
bits_of_zero (suc n) = ap (λ r. false ∷ r) (bits_of_zero n)

next_bits : (n : ℕ) (b : Bool) (m : ℕ) → bits_of (suc n) (pos (number_of_truth b + 2 * m)) ≡ b ∷ bits_of n (pos m)
next_bits n b m i = odd_first b m i ∷ bits_of n (pos (half_rest b m i))

-- beyond the bits stand zeros
longer_bits : (bits : List Bool) (k : ℕ) → bits_of (length bits + k) (pos (number_of_bits bits)) ≡ bits ++ replicate k false
longer_bits [] k = ap (λ n. bits_of n (pos 0)) (let e : 0 + k ≡ k = omega arith in e) ∙ bits_of_zero k
longer_bits (b ∷ bits) k =
    let e : suc (length bits) + k ≡ suc (length bits + k) = omega arith in
    ap (λ n. bits_of n (pos (number_of_bits (b ∷ bits)))) e ∙ next_bits (length bits + k) b (number_of_bits bits) ∙ ap (λ r. b ∷ r) (longer_bits bits k)

moved_bits : (k n m : ℕ) → bits_of (k + n) (pos (m * 2 ^ k)) ≡ replicate k false ++ bits_of n (pos m)
moved_bits zero n m =
    let e : zero + n ≡ n = omega arith in
    let d : m * 2 ^ zero ≡ m = omega arith in
    λ i. bits_of (e i) (pos (d i))
moved_bits (suc k) n m =
    let e : suc k + n ≡ suc (k + n) = omega arith in
    let d : m * 2 ^ suc k ≡ 0 + 2 * (m * 2 ^ k) = omega (arith, ap (λ x. m * x) (pow-suc 2 k)) in
    (λ i. bits_of (e i) (pos (d i))) ∙ next_bits (k + n) false (m * 2 ^ k) ∙ ap (λ r. false ∷ r) (moved_bits k n m)

first_bits : (n j : ℕ) (z : ℤ) → take n (bits_of (n + j) z) ≡ bits_of n z
first_bits zero j z = refl
first_bits (suc n) j z =
    let e : suc n + j ≡ suc (n + j) = omega arith in
    ap (λ m. take (suc n) (bits_of m z)) e ∙ ap (λ r. is_odd z ∷ r) (first_bits n j (int_div_euclid z (pos 2)))

left_bits : (bits : List Bool) (k : ℕ) → bits_of (length bits) (pos (number_of_bits bits * 2 ^ k)) ≡ take (length bits) (replicate k false ++ bits)
left_bits bits k =
    let e : length bits + k ≡ k + length bits = omega arith in
    sym (first_bits (length bits) k (pos (number_of_bits bits * 2 ^ k)))
    ∙ ap (λ n. take (length bits) (bits_of n (pos (number_of_bits bits * 2 ^ k)))) e
    ∙ ap (take (length bits)) (moved_bits k (length bits) (number_of_bits bits) ∙ ap (λ r. replicate k false ++ r) (bits_again bits))

dropped_number : (k : ℕ) (bits : List Bool) → number_of_bits bits / 2 ^ k ≡ number_of_bits (drop k bits)
dropped_number zero bits = omega arith
dropped_number (suc k) [] = zero_over (2 ^ suc k) (pow_pos (suc k))
  where
    zero_over : (d : ℕ) → 0 < d → 0 / d ≡ 0
    zero_over d h = omega arith
dropped_number (suc k) (b ∷ bits) =
    ap (λ d. number_of_bits (b ∷ bits) / d) (pow-succ' 2 k) ∙ sym (div-div-eq-div-mul (number_of_bits (b ∷ bits)) 2 (2 ^ k)) ∙ ap (λ n. n / 2 ^ k) (half_rest b (number_of_bits bits)) ∙ dropped_number k bits

right_bits : (bits : List Bool) (k : ℕ) → bits_of (length bits) (pos (number_of_bits bits / 2 ^ k)) ≡ drop k bits ++ replicate (min k (length bits)) false
right_bits bits k =
    let e : length bits ≡ length (drop k bits) + min k (length bits) = omega (arith, length-drop k bits) in
    (λ i. bits_of (e i) (pos (dropped_number k bits i))) ∙ longer_bits (drop k bits) (min k (length bits))

module _ (cells : Cells) where
  zero_parts : (k : ℕ) → values cells (replicate k (tree.Truth false)) ≡ map Holds (replicate k false)
  zero_parts zero = refl
  zero_parts (suc k) = ap (λ r. Holds false ∷ r) (zero_parts k)

  same_count : (xs : List Expr) (bits : List Bool) → values cells xs ≡ map Holds bits → length xs ≡ length bits
  same_count xs bits p = sym (length-map xs (λ (e : Expr). value_of e cells)) ∙ ap length p ∙ length-map bits Holds

  moved_left : (k : ℕ) (xs : List Expr) (bits : List Bool) → values cells xs ≡ map Holds bits
      → values cells (take (length xs) (replicate k (tree.Truth false) ++ xs)) ≡ map Holds (take (length bits) (replicate k false ++ bits))
  moved_left k xs bits p =
      sym (take-map (λ (e : Expr). value_of e cells) (length xs) (replicate k (tree.Truth false) ++ xs))
      ∙ (λ i. take (same_count xs bits p i) (map-append (λ (e : Expr). value_of e cells) (replicate k (tree.Truth false)) xs i))
      ∙ (λ i. take (length bits) (zero_parts k i ++ p i))
      ∙ ap (take (length bits)) (sym (map-append Holds (replicate k false) bits))
      ∙ take-map Holds (length bits) (replicate k false ++ bits)

  moved_right : (k : ℕ) (xs : List Expr) (bits : List Bool) → values cells xs ≡ map Holds bits
      → values cells (drop k xs ++ replicate (min k (length xs)) (tree.Truth false)) ≡ map Holds (drop k bits ++ replicate (min k (length bits)) false)
  moved_right k xs bits p =
      map-append (λ (e : Expr). value_of e cells) (drop k xs) (replicate (min k (length xs)) (tree.Truth false))
      ∙ ap (λ r. r ++ values cells (replicate (min k (length xs)) (tree.Truth false))) (sym (drop-map (λ (e : Expr). value_of e cells) k xs) ∙ ap (drop k) p ∙ drop-map Holds k bits)
      ∙ ap (λ r. map Holds (drop k bits) ++ r) (zero_parts (min k (length xs)) ∙ ap (λ n. map Holds (replicate (min k n) false)) (same_count xs bits p))
      ∙ sym (map-append Holds (drop k bits) (replicate (min k (length bits)) false))

  pub shifted_value : (o : BinaryOp) (k : ℕ) (bits : List Bool) (xs : List Expr) → IsShift o → HaveValue cells xs (Register bits)
      → OperatorResult cells o (t.Bits (length bits)) (Register bits) (Number (pos k)) (scaled_parts o (t.Bits (length bits)) xs k)
  shifted_value op.ShiftLeft k bits xs h p =
      (Register (take (length bits) (replicate k false ++ bits)), rw (le-ltb k 0 (omega arith)) (ap (λ r. Some (Register r)) (left_bits bits k)), moved_left k xs bits p)
  shifted_value op.ShiftRight k bits xs h p =
      (Register (drop k bits ++ replicate (min k (length bits)) false), rw (le-ltb k 0 (omega arith)) (ap (λ r. Some (Register r)) (right_bits bits k)), moved_right k xs bits p)
  shifted_value _ k bits xs h p = absurd h
