-- Unary operators over cells.
use Rattle.std.proofs.Common.{◌≡◌, ℕ, ◌+◌, ◌-◌, ◌*◌, ◌%◌, Bool, true, false, not, List, [], ◌∷◌, length, map, ℤ, pos, negsuc, neg_ℤ, ◌-ℤ◌, Some, None, if◌then◌else◌, refl, sym, ap, subst, ◌∙◌, arith}
use Rattle.std.proofs.lemmas.Int.{ints}
use Rattle.std.specs.Int.Bits.{xor_zero_r}
use Rattle.std.specs.Ordering.{int_eq}
use Rattle.qasm_ast.specs.declared.expr.UnaryOp.{UnaryOp}
use Rattle.qasm_ast.specs.declared.expr.UnaryOp.TheVariants as unary
use Rattle.word_arith.specs.Whole.{int_xor}
use Rattle.qasm_types.specs.declared.ty.Ty.{Ty}
use Rattle.qasm_types.specs.declared.ty.Ty.TheVariants as t
use Rattle.qasm_types.specs.Plans.{unary_plan, complements, negates}
use Rattle.qasm_types.specs.Values.{Value, Truth, Register, PartOfPi, IsValueOf, number_of, number_of_truth, number_of_bits, is_odd, bits_of, reduced_to, apply_unary}
use Rattle.qir_module.specs.Machine.{Word, Holds}
use Rattle.qir_module.specs.declared.instruction.Opcode.TheVariants as code
use Rattle.core_ir.specs.Tree.{Expr, Op}
use Rattle.core_ir.specs.Tree as tree
use Rattle.core_ir.specs.Run.{Cells, value_of, op_on, value_or_zero}
use Rattle.machine_words.specs.Words.{word_of}
use Rattle.cell_exprs.specs.Parts.{single_part, not_part, truth_part, reduced_part, complement_parts, unary_parts}
use Rattle.cell_exprs.specs.Laws.{HaveValue, IsInCells, UnaryResult}
use Rattle.cell_exprs.proofs.Numbers.{WordLaws, values, word_value}
use Rattle.cell_exprs.proofs.Tests.{truth_value, not_value}
use Rattle.cell_exprs.proofs.Casting.{half_rest}
use Rattle.cell_exprs.proofs.Computing.{is_one_word, IsNoPart, value_is_no_part, reduced_some, settled_value}

not_not : (b : Bool) → not (not b) ≡ b
not_not true = refl
not_not false = refl

-- ---- turned bits

before_zero : (m : ℕ) → neg_ℤ (pos m) -ℤ pos 1 ≡ negsuc m
before_zero m = omega (arith, ints)

odd_turned : (b : Bool) (m : ℕ) → is_odd (negsuc (number_of_truth b + 2 * m)) ≡ not b
odd_turned true m = let e : 2 - 1 - (1 + 2 * m) % 2 ≡ 0 = omega arith in ap (λ x. int_eq (pos x) (pos 1)) e
odd_turned false m = let e : 2 - 1 - (0 + 2 * m) % 2 ≡ 1 = omega arith in ap (λ x. int_eq (pos x) (pos 1)) e

bits_turned : (bits : List Bool) → bits_of (length bits) (negsuc (number_of_bits bits)) ≡ map not bits
bits_turned [] = refl
bits_turned (b ∷ bits) =
    (λ i. odd_turned b (number_of_bits bits) i ∷ bits_of (length bits) (negsuc (half_rest b (number_of_bits bits) i))) ∙ ap (λ r. not b ∷ r) (bits_turned bits)

complement_of : (z : ℤ) → int_xor z (negsuc 0) ≡ neg_ℤ z -ℤ pos 1
complement_of (pos m) = ap negsuc (xor_zero_r m) ∙ sym (before_zero m)
complement_of (negsuc m) = ap pos (xor_zero_r m) ∙ omega (arith, ints)

from_zero : (z : ℤ) → pos 0 -ℤ z ≡ neg_ℤ z
from_zero z = omega (arith, ints)

negated_number : (m : Ty) (x : Value) → IsNoPart x → apply_unary unary.Negate m x ≡ reduced_to m (neg_ℤ (number_of x))
negated_number m (PartOfPi p) h = absurd h
negated_number m _ h = refl

some_is : {A : Type 0} {x y : A} → Some x ≡ Some y → x ≡ y
some_is e = cc

module _ (laws : WordLaws) (cells : Cells) where
  -- ---- `!`

  not_operator : (a m : Ty) (x : Value) (xs : List Expr) → IsInCells a → IsValueOf a x → HaveValue cells xs x → UnaryResult cells unary.Not m x (not_part (truth_part a xs) ∷ [])
  not_operator a m x xs h v p =
      let is = truth_value cells laws a x xs h v p in
      (Truth (int_eq (number_of x) (pos 0)), refl, ap (λ w. w ∷ []) (not_value cells (truth_part a xs) _ is ∙ ap Holds (not_not _)))

  -- ---- `~`

  turned_parts : (xs : List Expr) (bits : List Bool) → values cells xs ≡ map Holds bits → values cells (map not_part xs) ≡ map Holds (map not bits)
  turned_parts [] [] e = refl
  turned_parts [] (b ∷ bits) e = absurd cc
  turned_parts (x ∷ xs) [] e = absurd cc
  turned_parts (x ∷ xs) (b ∷ bits) e =
      let first : value_of x cells ≡ Holds b = cc in
      let is = not_value cells x b first in
      let later : values cells xs ≡ map Holds bits = cc in
      let rest = turned_parts xs bits later in
      λ i. is i ∷ rest i

  turned_word : (e : Expr) (z : ℤ) → value_of e cells ≡ Word (word_of z) → value_of (Op code.Xor e (tree.Number (negsuc 0))) cells ≡ Word (word_of (neg_ℤ z -ℤ pos 1))
  turned_word e z is = ap (λ v. value_or_zero (op_on code.Xor v (Word (negsuc 0)))) is ∙ ap Word (laws.exact.xors z (negsuc 0)) ∙ ap (λ y. Word (word_of y)) (complement_of z)

  complement_word : (a : Ty) (x : Value) (xs : List Expr) → is_one_word a ≡ true → IsInCells a → IsValueOf a x → value_of (single_part xs) cells ≡ Word (word_of (number_of x))
      → UnaryResult cells unary.Complement a x (reduced_part a (Op code.Xor (single_part xs) (tree.Number (negsuc 0))) ∷ [])
  complement_word a x xs w h v is =
      let n = neg_ℤ (number_of x) -ℤ pos 1 in
      let (z, to) = reduced_some a n h in
      (z, to, settled_value laws cells a (Op code.Xor (single_part xs) (tree.Number (negsuc 0))) n z h w (turned_word (single_part xs) (number_of x) is) to)

  complement_truth : (x : Value) (xs : List Expr) → IsValueOf t.Bit x → HaveValue cells xs x → UnaryResult cells unary.Complement t.Bit x (map not_part xs)
  complement_truth (Truth true) xs v p = (Truth false, refl, turned_parts xs (true ∷ []) p)
  complement_truth (Truth false) xs v p = (Truth true, refl, turned_parts xs (false ∷ []) p)
  complement_truth _ xs v p = absurd v

  complement_register : (n : ℕ) (x : Value) (xs : List Expr) → IsValueOf (t.Bits n) x → HaveValue cells xs x → UnaryResult cells unary.Complement (t.Bits n) x (map not_part xs)
  complement_register n (Register bits) xs v p = (
    Register (map not bits),
    ap (λ k. Some (Register (bits_of k (neg_ℤ (pos (number_of_bits bits)) -ℤ pos 1)))) (sym v) ∙ ap (λ z. Some (Register (bits_of (length bits) z))) (before_zero (number_of_bits bits)) ∙ ap (λ r. Some (Register r)) (bits_turned bits),
    turned_parts xs bits p,
  )
  complement_register n _ xs v p = absurd v

  complement_operator : (a : Ty) (x : Value) (xs : List Expr) → complements a ≡ true → IsInCells a → IsValueOf a x → HaveValue cells xs x → UnaryResult cells unary.Complement a x (complement_parts a xs)
  complement_operator (t.Int n) x xs k h v p = complement_word (t.Int n) x xs refl h v (word_value laws cells (t.Int n) x xs h v p)
  complement_operator (t.Uint n) x xs k h v p = complement_word (t.Uint n) x xs refl h v (word_value laws cells (t.Uint n) x xs h v p)
  complement_operator t.Bit x xs k h v p = complement_truth x xs v p
  complement_operator (t.Bits n) x xs k h v p = complement_register n x xs v p
  complement_operator t.Whole x xs k h v p = absurd h
  complement_operator _ x xs k h v p = absurd cc

  -- ---- `-`

  negative_word : (e : Expr) (z : ℤ) → value_of e cells ≡ Word (word_of z) → value_of (Op code.Sub (tree.Number (pos 0)) e) cells ≡ Word (word_of (neg_ℤ z))
  negative_word e z is = ap (λ v. value_or_zero (op_on code.Sub (Word (pos 0)) v)) is ∙ ap Word (laws.exact.differences (pos 0) z) ∙ ap (λ y. Word (word_of y)) (from_zero z)

  negate_word : (a : Ty) (x : Value) (xs : List Expr) → is_one_word a ≡ true → IsInCells a → IsValueOf a x → value_of (single_part xs) cells ≡ Word (word_of (number_of x))
      → UnaryResult cells unary.Negate a x (reduced_part a (Op code.Sub (tree.Number (pos 0)) (single_part xs)) ∷ [])
  negate_word a x xs w h v is =
      let n = neg_ℤ (number_of x) in
      let (z, to) = reduced_some a n h in
      (z, negated_number a x (value_is_no_part a x w v) ∙ to, settled_value laws cells a (Op code.Sub (tree.Number (pos 0)) (single_part xs)) n z h w (negative_word (single_part xs) (number_of x) is) to)

  negate_operator : (a : Ty) (x : Value) (xs : List Expr) → negates a ≡ true → IsInCells a → IsValueOf a x → HaveValue cells xs x
      → UnaryResult cells unary.Negate a x (reduced_part a (Op code.Sub (tree.Number (pos 0)) (single_part xs)) ∷ [])
  negate_operator (t.Int n) x xs k h v p = negate_word (t.Int n) x xs refl h v (word_value laws cells (t.Int n) x xs h v p)
  negate_operator (t.Uint n) x xs k h v p = negate_word (t.Uint n) x xs refl h v (word_value laws cells (t.Uint n) x xs h v p)
  negate_operator (t.Angle n) x xs k h v p = negate_word (t.Angle n) x xs refl h v (word_value laws cells (t.Angle n) x xs h v p)
  negate_operator t.Turn x xs k h v p = negate_word t.Turn x xs refl h v (word_value laws cells t.Turn x xs h v p)
  negate_operator t.Whole x xs k h v p = absurd h
  negate_operator t.Pi x xs k h v p = absurd h
  negate_operator _ x xs k h v p = absurd cc

  -- ---- by the table

  where_row : {m a : Ty} (b : Bool) → (if b then Some a else None) ≡ Some m → (b ≡ true) × (a ≡ m)
  where_row true e = (refl, cc)
  where_row false e = absurd cc

  pub unary_value : (o : UnaryOp) (a m : Ty) (v : ℤ) (x : Value) (xs : List Expr) → unary_plan o a v ≡ Some m → IsInCells a → IsValueOf a x → HaveValue cells xs x → UnaryResult cells o m x (unary_parts o a m xs)
  unary_value unary.Not a m v x xs e h is p = not_operator a m x xs h is p
  unary_value unary.Complement a m v x xs e h is p =
      let (k, same) = where_row (complements a) e in
      let P : Ty → Type 0 = λ c. UnaryResult cells unary.Complement c x (unary_parts unary.Complement a c xs) in
      subst P same (complement_operator a x xs k h is p)
  unary_value unary.Negate a m v x xs e h is p =
      let (k, same) = where_row (negates a) e in
      let P : Ty → Type 0 = λ c. UnaryResult cells unary.Negate c x (unary_parts unary.Negate a c xs) in
      subst P same (negate_operator a x xs k h is p)
