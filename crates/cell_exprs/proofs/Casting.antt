-- The parts of what is cast have the value of the cast.
use Rattle.std.proofs.Common.{◌≡◌, ℕ, ◌+◌, ◌-◌, ◌*◌, ◌/◌, ◌%◌, ◌^◌, ◌<◌, ◌≤◌, Bool, true, false, nat_lt, nat_le, if◌then◌else◌, List, [], ◌∷◌, length, map, ℤ, pos, ◌≤ℤ◌, Some, refl, sym, ap, subst, ◌∙◌, arith}
use Rattle.std.proofs.Math.Nat.{div-le_self, mul-lt-mul_of_pos_right}
use Rattle.std.proofs.Math.Pow.{pow_mono}
use Rattle.std.proofs.lemmas.Nat.{pow_pos, pow-add}
use Rattle.std.proofs.lemmas.Bool.{eqb-true, ltb-true, ltb-false, leb-true, le-leb, lt-leb}
use Rattle.std.proofs.lemmas.Int.{ints}
use Rattle.std.specs.Int.{w64, cast_unsigned, int_shl}
use Rattle.word_arith.specs.WordTy.{least_value, greatest_value, value_modulo}
use Rattle.qasm_types.specs.declared.ty.Ty.{Ty}
use Rattle.qasm_types.specs.declared.ty.Ty.TheVariants as t
use Rattle.qasm_types.specs.Plans.{casts}
use Rattle.qasm_types.specs.Values.{Value, Truth, Register, Number, Count, Units, IsValueOf, number_of, number_of_truth, number_of_bits, is_odd, bits_of, reduced_to, count_at, cast}
use Rattle.qir_module.specs.Machine.{Word, Holds, unsigned_word}
use Rattle.qir_module.specs.declared.instruction.Opcode.TheVariants as code
use Rattle.std.specs.Ordering.{int_eq}
use Rattle.core_ir.specs.Tree.{Expr, Op, Number as NumberExpr}
use Rattle.core_ir.specs.Run.{Cells, value_of, op_on, value_or_zero}
use Rattle.machine_words.specs.Words.{word_of}
use Rattle.cell_exprs.specs.CellValues.{cells_of_value}
use Rattle.cell_exprs.specs.Parts.{single_part, word_part, reduced_parts, angle_part, keeps, cast_parts}
use Rattle.cell_exprs.specs.Laws.{HaveValue, IsInCells}
use Rattle.cell_exprs.proofs.Numbers.{WordLaws, values, single_value, word_value, small_word}
use Rattle.cell_exprs.proofs.Reducing.{HasFewBits, reduced_value, left_by, logical_right_by}
use Rattle.cell_exprs.proofs.Tests.{truth_value}

some_is : {A : Type 0} {x y : A} → Some x ≡ Some y → x ≡ y
some_is e = cc

-- ---- a cast that keeps the cells

pub odd_first : (b : Bool) (m : ℕ) → is_odd (pos (number_of_truth b + 2 * m)) ≡ b
odd_first true m = let e : (1 + 2 * m) % 2 ≡ 1 = omega arith in ap (λ x. int_eq (pos x) (pos 1)) e
odd_first false m = let e : (0 + 2 * m) % 2 ≡ 0 = omega arith in ap (λ x. int_eq (pos x) (pos 1)) e

pub half_rest : (b : Bool) (m : ℕ) → (number_of_truth b + 2 * m) / 2 ≡ m
half_rest true m = omega arith
half_rest false m = omega arith

pub bits_again : (bits : List Bool) → bits_of (length bits) (pos (number_of_bits bits)) ≡ bits
bits_again [] = refl
bits_again (b ∷ bits) =
    (λ i. odd_first b (number_of_bits bits) i ∷ bits_of (length bits) (pos (half_rest b (number_of_bits bits) i))) ∙ ap (λ r. b ∷ r) (bits_again bits)

odd_truth : (b : Bool) → is_odd (pos (number_of_truth b)) ≡ b
odd_truth true = refl
odd_truth false = refl

module _ (laws : WordLaws) (cells : Cells) where
  kept_truth : (x y : Value) → IsValueOf t.Bit x → reduced_to t.Bit (number_of x) ≡ Some y → cells_of_value y ≡ cells_of_value x
  kept_truth (Truth b) y v to = ap cells_of_value (sym (some_is to)) ∙ ap (λ z. Holds z ∷ []) (odd_truth b)
  kept_truth _ y v to = absurd v

  kept_bits : (m n : ℕ) (x y : Value) → n ≡ m → IsValueOf (t.Bits m) x → reduced_to (t.Bits n) (number_of x) ≡ Some y → cells_of_value y ≡ cells_of_value x
  kept_bits m n (Register bits) y same v to =
      ap cells_of_value (sym (some_is to)) ∙ ap (λ k. map Holds (bits_of k (pos (number_of_bits bits)))) (same ∙ sym v) ∙ ap (map Holds) (bits_again bits)
  kept_bits m n _ y same v to = absurd v

  same_number : (signed : Bool) (n : ℕ) (z : ℤ) (y : Value) → 1 ≤ n → least_value signed n ≤ℤ z → z ≤ℤ greatest_value signed n → Number (value_modulo signed n z) ≡ y → cells_of_value y ≡ cells_of_value (Number z)
  same_number signed n z y some l g to = ap cells_of_value (sym to) ∙ ap (λ w. Word (word_of w) ∷ []) (laws.kept.values signed n z some l g)

  kept_int : (m n : ℕ) (x y : Value) → 1 ≤ m → m ≤ n → IsValueOf (t.Int m) x → reduced_to (t.Int n) (number_of x) ≡ Some y → cells_of_value y ≡ cells_of_value x
  kept_int m n (Number z) y some wide v to =
      let le : m - 1 ≤ n - 1 = omega arith in
      let more : 2 ^ (m - 1) ≤ 2 ^ (n - 1) = pow_mono le in
      same_number true n z y (omega arith) (omega (arith, ints, more, v.0)) (omega (arith, ints, more, v.1, pow_pos (m - 1))) (some_is to)
  kept_int m n _ y some wide v to = absurd v

  kept_uint : (m n : ℕ) (x y : Value) → 1 ≤ m → m ≤ n → IsValueOf (t.Uint m) x → reduced_to (t.Uint n) (number_of x) ≡ Some y → cells_of_value y ≡ cells_of_value x
  kept_uint m n (Number z) y some wide v to =
      let more : 2 ^ m ≤ 2 ^ n = pow_mono wide in
      same_number false n z y (omega arith) v.0 (omega (arith, ints, more, v.1, pow_pos m)) (some_is to)
  kept_uint m n _ y some wide v to = absurd v

  kept_mixed : (m n : ℕ) (x y : Value) → m < n → IsValueOf (t.Uint m) x → reduced_to (t.Int n) (number_of x) ≡ Some y → cells_of_value y ≡ cells_of_value x
  kept_mixed m n (Number z) y wide v to =
      let le : m ≤ n - 1 = omega arith in
      let more : 2 ^ m ≤ 2 ^ (n - 1) = pow_mono le in
      same_number true n z y (omega arith) (omega (arith, ints, v.0)) (omega (arith, ints, more, v.1, pow_pos m)) (some_is to)
  kept_mixed m n _ y wide v to = absurd v

  kept_turn : (x y : Value) → IsValueOf t.Turn x → reduced_to t.Turn (number_of x) ≡ Some y → cells_of_value y ≡ cells_of_value x
  kept_turn (Units z) y v to =
      let some : 1 ≤ 64 = omega arith in
      ap cells_of_value (sym (some_is to)) ∙ ap (λ w. Word w ∷ []) (laws.kept.values true 64 z some v.0 v.1)
  kept_turn _ y v to = absurd v

  at_bool : (x : Value) → IsValueOf t.Bool x → IsValueOf t.Bit x
  at_bool (Truth b) v = tt
  at_bool _ v = absurd v

  -- values of a type that has no fewer bits are themselves
  kept_value : (a b : Ty) (x y : Value) → IsInCells a → keeps a b ≡ true → casts a (pos 0) b ≡ true → IsValueOf a x → reduced_to b (number_of x) ≡ Some y → cells_of_value y ≡ cells_of_value x
  kept_value t.Bool t.Bit x y h keep has v to = kept_truth x y (at_bool x v) to
  kept_value t.Bit t.Bit x y h keep has v to = kept_truth x y v to
  kept_value (t.Bits m) (t.Bits n) x y h keep has v to = kept_bits m n x y (eqb-true n m has) v to
  kept_value (t.Int m) (t.Int n) x y h keep has v to = kept_int m n x y h.0 (leb-true m n keep) v to
  kept_value (t.Uint m) (t.Uint n) x y h keep has v to = kept_uint m n x y h.0 (leb-true m n keep) v to
  kept_value (t.Uint m) (t.Int n) x y h keep has v to = kept_mixed m n x y (ltb-true m n keep) v to
  kept_value t.Turn t.Turn x y h keep has v to = kept_turn x y v to
  kept_value _ _ x y h keep has v to = absurd cc

  -- ---- angles

  wider : (m n c : ℕ) → n ≤ 32 → m < n → c < 2 ^ m → c * 2 ^ (n - m) < 2 ^ 32
  wider m n c few less below =
      let e : m + (n - m) ≡ n = omega arith in
      let all : 2 ^ m * 2 ^ (n - m) ≡ 2 ^ n = sym (pow-add 2 m (n - m)) ∙ ap (λ k. 2 ^ k) e in
      let most : 2 ^ n ≤ 2 ^ 32 = pow_mono few in
      omega (arith, all, most, mul-lt-mul_of_pos_right {k = 2 ^ (n - m)} below (pow_pos (n - m)))

  angle_left : (m n c : ℕ) (e : Expr) → n ≤ 32 → m < n → c < 2 ^ m → value_of e cells ≡ Word (pos c) → value_of (Op code.Shl e (NumberExpr (pos (n - m)))) cells ≡ Word (pos (count_at m n c))
  angle_left m n c e few less below is =
      let k = n - m in
      let small = wider m n c few less below in
      let most : 2 ^ m ≤ 2 ^ 32 = pow_mono (let le : m ≤ 32 = omega arith in le) in
      let up : nat_le m n ≡ true = le-leb m n (omega arith) in
      ap (λ v. value_or_zero (op_on code.Shl v (Word (pos k)))) is ∙ left_by (pos c) k (omega arith)
      ∙ ap (λ w. Word (int_shl w64 w k)) (sym (small_word laws cells c (omega arith))) ∙ ap Word (laws.exact.left (pos c) k)
      ∙ ap Word (small_word laws cells (c * 2 ^ k) (omega arith)) ∙ ap (λ b. Word (pos (if b then c * 2 ^ (n - m) else c / 2 ^ (m - n)))) (sym up)

  angle_right : (m n c : ℕ) (e : Expr) → m ≤ 32 → n < m → c < 2 ^ m → value_of e cells ≡ Word (pos c) → value_of (Op code.Lshr e (NumberExpr (pos (m - n)))) cells ≡ Word (pos (count_at m n c))
  angle_right m n c e few less below is =
      let k = m - n in
      let most : 2 ^ m ≤ 2 ^ 32 = pow_mono few in
      let down : nat_le m n ≡ false = lt-leb m n (omega arith) in
      let fewer = div-le_self c (2 ^ k) in
      ap (λ v. value_or_zero (op_on code.Lshr v (Word (pos k)))) is ∙ logical_right_by (pos c) k (omega arith)
      ∙ ap (λ w. unsigned_word (cast_unsigned w64 w / 2 ^ k)) (sym (small_word laws cells c (omega arith))) ∙ laws.unsigned.quotients c (2 ^ k) (omega arith)
      ∙ ap Word (small_word laws cells (c / 2 ^ k) (omega arith)) ∙ ap (λ b. Word (pos (if b then c * 2 ^ (n - m) else c / 2 ^ (m - n)))) (sym down)

  angle_same : (m n c : ℕ) → m ≡ n → c ≡ count_at m n c
  angle_same m n c same =
      let none : n - m ≡ 0 = omega arith in
      let up : nat_le m n ≡ true = le-leb m n (omega arith) in
      let once : c ≡ c * 2 ^ (n - m) = let P : ℕ → Type 0 = λ k. c ≡ c * 2 ^ k in subst P (sym none) (omega arith) in
      once ∙ ap (λ b. if b then c * 2 ^ (n - m) else c / 2 ^ (m - n)) (sym up)

  angle_cast : (m n c : ℕ) (e : Expr) → m ≤ 32 → n ≤ 32 → c < 2 ^ m → value_of e cells ≡ Word (pos c) → value_of (angle_part m n e) cells ≡ Word (pos (count_at m n c))
  angle_cast m n c e few_m few_n below is = first (nat_lt m n) refl
    where
      second : (b : Bool) → nat_lt n m ≡ b → n ≤ m → value_of (if b then Op code.Lshr e (NumberExpr (pos (m - n))) else e) cells ≡ Word (pos (count_at m n c))
      second true test le = angle_right m n c e few_m (ltb-true n m test) below is
      second false test le = let other = ltb-false n m test in is ∙ ap (λ k. Word (pos k)) (angle_same m n c (omega arith))

      first : (b : Bool) → nat_lt m n ≡ b → value_of (if b then Op code.Shl e (NumberExpr (pos (n - m))) else (if nat_lt n m then Op code.Lshr e (NumberExpr (pos (m - n))) else e)) cells ≡ Word (pos (count_at m n c))
      first true test = angle_left m n c e few_n (ltb-true m n test) below is
      first false test = second (nat_lt n m) refl (ltb-false m n test)

  -- ---- the number of bits that a cast takes

  bits_of_cast : (a : Ty) (n : ℕ) → IsInCells a → casts a (pos 0) (t.Bits n) ≡ true → keeps a (t.Bits n) ≡ false → n ≤ 64
  bits_of_cast (t.Int m) n h has keep = let e : n ≡ m = eqb-true n m has in omega (arith, h.1)
  bits_of_cast (t.Uint m) n h has keep = let e : n ≡ m = eqb-true n m has in omega (arith, h.1)
  bits_of_cast (t.Angle m) n h has keep = let e : n ≡ m = eqb-true n m has in omega (arith, h.1)
  bits_of_cast t.Whole n h has keep = absurd h
  bits_of_cast t.Pi n h has keep = absurd h
  bits_of_cast _ n h has keep = absurd cc

  few_bits : (a b : Ty) → IsInCells a → casts a (pos 0) b ≡ true → keeps a b ≡ false → HasFewBits b
  few_bits a (t.Bits n) h has keep = bits_of_cast a n h has keep
  few_bits a _ h has keep = tt

  by_number : (a b : Ty) (x y : Value) (parts : List Expr) (keep : Bool) → keeps a b ≡ keep → IsInCells a → IsInCells b → casts a (pos 0) b ≡ true → IsValueOf a x → HaveValue cells parts x
      → reduced_to b (number_of x) ≡ Some y → values cells (if keep then parts else reduced_parts b (word_part a parts)) ≡ cells_of_value y
  by_number a b x y parts true test h k has v e to = e ∙ sym (kept_value a b x y h test has v to)
  by_number a b x y parts false test h k has v e to =
      reduced_value laws cells b (number_of x) (word_part a parts) y k (few_bits a b h has test) (word_value laws cells a x parts h v e) to

  pub cast_value : (a b : Ty) (v : ℤ) (x y : Value) (parts : List Expr) → IsInCells a → IsInCells b → casts a v b ≡ true → IsValueOf a x → HaveValue cells parts x
      → cast a x b ≡ Some y → HaveValue cells (cast_parts a b parts) y
  cast_value a t.Bool v x y parts h k has is e to = ap (λ w. w ∷ []) (truth_value cells laws a x parts h is e) ∙ ap cells_of_value (some_is to)
  cast_value (t.Angle m) (t.Angle n) v (Count c) y parts h k has is e to = ap (λ w. w ∷ []) (angle_cast m n c (single_part parts) h.1 k.1 is (single_value cells parts (Word (pos c)) e)) ∙ ap cells_of_value (some_is to)
  cast_value (t.Angle m) (t.Angle n) v _ y parts h k has is e to = absurd is
  cast_value t.Whole b v x y parts h k has is e to = absurd h
  cast_value t.Pi b v x y parts h k has is e to = absurd h
  cast_value a b v x y parts h k has is e to = by_number a b x y parts (keeps a b) refl h k has is e to
