-- Parts that hold, and whether a value is 0.
use Rattle.std.proofs.Common.{◌≡◌, ℕ, zero, suc, ◌+◌, ◌*◌, ◌<◌, ◌≤◌, Bool, true, false, not, ◌||◌, List, [], ◌∷◌, map, ℤ, pos, negsuc, refl, sym, ap, ◌∙◌, arith}
use Rattle.std.proofs.lemmas.Int.{ints}
use Rattle.std.specs.Ordering.{int_eq}
use Rattle.qasm_types.specs.declared.ty.Ty.{Ty}
use Rattle.qasm_types.specs.declared.ty.Ty.TheVariants as t
use Rattle.qasm_types.specs.Values.{Value, Truth, Register, Number, Count, Units, IsValueOf, number_of, number_of_truth, number_of_bits}
use Rattle.qir_module.specs.Machine.{Word, Holds, same_word}
use Rattle.qir_module.specs.declared.instruction.Opcode.TheVariants as code
use Rattle.core_ir.specs.Tree.{Expr, Cell, Number as NumberExpr, Op, Widen, Narrow, Choose, Cut}
use Rattle.core_ir.specs.Tree as tree
use Rattle.core_ir.specs.Run.{Cells, value_of}
use Rattle.machine_words.specs.Words.{word_of}
use Rattle.cell_exprs.specs.Parts.{single_part, not_part, either_of, either_part, any_part, truth_part}
use Rattle.cell_exprs.specs.Laws.{HaveValue, IsInCells}
use Rattle.cell_exprs.proofs.Numbers.{WordLaws, values, single_value, int_fits, uint_below, count_below}

module _ (cells : Cells) where
  -- ---- truth values

  holds_is : (x y : Bool) → Holds x ≡ Holds y → x ≡ y
  holds_is x y e = cc

  or_true : (x : Bool) → true ≡ (x || true)
  or_true true = refl
  or_true false = refl

  or_false : (x : Bool) → x ≡ (x || false)
  or_false true = refl
  or_false false = refl

  either_instruction : (b e : Expr) (x y : Bool) → value_of b cells ≡ Holds x → value_of e cells ≡ Holds y → value_of (Op code.Or b e) cells ≡ Holds (x || y)
  either_instruction b e x y p q = rw (p, q) refl

  either_of_value : (b e : Expr) (x y : Bool) → value_of b cells ≡ Holds x → value_of e cells ≡ Holds y → value_of (either_of b e) cells ≡ Holds (x || y)
  either_of_value b (tree.Truth true) x y p q = let is = holds_is true y q in ap Holds (or_true x ∙ ap (λ z. x || z) is)
  either_of_value b (tree.Truth false) x y p q = let is = holds_is false y q in p ∙ ap Holds (or_false x ∙ ap (λ z. x || z) is)
  either_of_value b e x y p q = either_instruction b e x y p q

  pub either_value : (b e : Expr) (x y : Bool) → value_of b cells ≡ Holds x → value_of e cells ≡ Holds y → value_of (either_part b e) cells ≡ Holds (x || y)
  either_value (tree.Truth true) e x y p q = ap (λ z. Holds (z || y)) (holds_is true x p)
  either_value (tree.Truth false) e x y p q = q ∙ ap (λ z. Holds (z || y)) (holds_is false x p)
  either_value b e x y p q = either_of_value b e x y p q

  pub not_value : (e : Expr) (x : Bool) → value_of e cells ≡ Holds x → value_of (not_part e) cells ≡ Holds (not x)
  not_value e true p = rw p refl
  not_value e false p = rw p refl

  -- ---- some bit is 1

  nonzero : (n : ℕ) → 0 < n → true ≡ not (int_eq (pos n) (pos 0))
  nonzero n h = grind (arith, ints)

  next_is_zero : (b : Bool) (n : ℕ) → (b || not (int_eq (pos n) (pos 0))) ≡ not (int_eq (pos (number_of_truth b + 2 * n)) (pos 0))
  next_is_zero true n = nonzero (1 + 2 * n) (omega arith)
  next_is_zero false zero = refl
  next_is_zero false (suc n) = sym (nonzero (suc n) (omega arith)) ∙ nonzero (0 + 2 * suc n) (omega arith)

  pub any_value : (parts : List Expr) (bits : List Bool) → values cells parts ≡ map Holds bits → value_of (any_part parts) cells ≡ Holds (not (int_eq (pos (number_of_bits bits)) (pos 0)))
  any_value [] [] e = refl
  any_value [] (b ∷ bits) e = absurd cc
  any_value (p ∷ ps) [] e = absurd cc
  any_value (p ∷ ps) (b ∷ bits) e =
      let first : value_of p cells ≡ Holds b = cc in
      let rest : values cells ps ≡ map Holds bits = cc in
      either_value p (any_part ps) b (not (int_eq (pos (number_of_bits bits)) (pos 0))) first (any_value ps bits rest) ∙ ap Holds (next_is_zero b (number_of_bits bits))

  -- ---- a value is not 0

  truth_is_nonzero : (b : Bool) → b ≡ not (int_eq (pos (number_of_truth b)) (pos 0))
  truth_is_nonzero true = refl
  truth_is_nonzero false = refl

  module _ (laws : WordLaws) where
    zero_word : word_of (pos 0) ≡ pos 0
    zero_word = refl

    compared : (e : Expr) (z : ℤ) → value_of e cells ≡ Word (word_of z) → same_word (word_of z) (word_of (pos 0)) ≡ int_eq z (pos 0)
        → value_of (Op code.Ne e (NumberExpr (pos 0))) cells ≡ Holds (not (int_eq z (pos 0)))
    compared e z is same = rw is (ap (λ x. Holds (not x)) same)

    signed_zero : (z : ℤ) (n : ℕ) → IsValueOf (t.Int n) (Number z) → 1 ≤ n → n ≤ 64 → same_word (word_of z) (word_of (pos 0)) ≡ int_eq z (pos 0)
    signed_zero z n v some few = laws.signed.equal z (pos 0) (int_fits n z some few v.0 v.1) (record { sfits = omega arith })

    unsigned_zero : (z : ℤ) (n : ℕ) → IsValueOf (t.Uint n) (Number z) → n ≤ 64 → same_word (word_of z) (word_of (pos 0)) ≡ int_eq z (pos 0)
    unsigned_zero (pos m) n v few = laws.unsigned.equal m 0 (uint_below n m few v.1) (omega arith)
    unsigned_zero (negsuc m) n v few = absurd (omega (arith, ints, v.0))

    pub truth_value : (a : Ty) (x : Value) (parts : List Expr) → IsInCells a → IsValueOf a x → HaveValue cells parts x
        → value_of (truth_part a parts) cells ≡ Holds (not (int_eq (number_of x) (pos 0)))
    truth_value t.Bool (Truth b) parts h v e = single_value cells parts (Holds b) e ∙ ap Holds (truth_is_nonzero b)
    truth_value t.Bit (Truth b) parts h v e = single_value cells parts (Holds b) e ∙ ap Holds (truth_is_nonzero b)
    truth_value (t.Bits n) (Register bits) parts h v e = any_value parts bits e
    truth_value (t.Int n) (Number z) parts h v e = compared (single_part parts) z (single_value cells parts (Word (word_of z)) e) (signed_zero z n v h.0 h.1)
    truth_value (t.Uint n) (Number z) parts h v e = compared (single_part parts) z (single_value cells parts (Word (word_of z)) e) (unsigned_zero z n v h.1)
    truth_value (t.Angle n) (Count c) parts h v e =
        let below = count_below n c h.1 v in
        let kept : word_of (pos c) ≡ pos c = laws.kept.words (pos c) (record { sfits = omega arith }) in
        compared (single_part parts) (pos c) (single_value cells parts (Word (pos c)) e ∙ ap Word (sym kept)) (laws.unsigned.equal c 0 (omega arith) (omega arith))
    truth_value t.Turn (Units z) parts h v e =
        let some : 1 ≤ 64 = omega arith in
        let few : 64 ≤ 64 = omega arith in
        let kept = laws.kept.words z (int_fits 64 z some few v.0 v.1) in
        compared (single_part parts) z (single_value cells parts (Word z) e ∙ ap Word (sym kept)) (signed_zero z 64 v some few)
    truth_value t.Whole x parts h v e = absurd h
    truth_value t.Pi x parts h v e = absurd h
    truth_value _ _ parts h v e = absurd v
