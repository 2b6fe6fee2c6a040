-- Operators on words: sums, differences, products and operations on bits.
use Rattle.std.proofs.Common.{◌≡◌, Bool, true, false, List, [], ◌∷◌, ℤ, ◌+ℤ◌, ◌-ℤ◌, ◌*ℤ◌, Some, refl, sym, ap, ◌∙◌}
use Rattle.std.specs.Option.{option_and_then}
use Rattle.qasm_ast.specs.declared.expr.BinaryOp.{BinaryOp}
use Rattle.qasm_ast.specs.declared.expr.BinaryOp.TheVariants as op
use Rattle.word_arith.specs.Whole.{int_and, int_or, int_xor}
use Rattle.qasm_types.specs.declared.ty.Ty.{Ty}
use Rattle.qasm_types.specs.declared.ty.Ty.TheVariants as t
use Rattle.qasm_types.specs.Types.{IsType, IsWord}
use Rattle.qasm_types.specs.Values.{Value, Number, PartOfPi, IsValueOf, number_of, reduced_to, result_on_numbers, apply}
use Rattle.qir_module.specs.Machine.{Word}
use Rattle.qir_module.specs.declared.instruction.Opcode.TheVariants as code
use Rattle.core_ir.specs.Tree.{Expr, Op}
use Rattle.core_ir.specs.Run.{Cells, value_of, op_on, value_or_zero}
use Rattle.machine_words.specs.Words.{word_of}
use Rattle.cell_exprs.specs.Parts.{single_part, word_code, reduced_part, reduced_parts}
use Rattle.cell_exprs.specs.Laws.{HaveValue, IsInCells}
use Rattle.cell_exprs.proofs.Numbers.{WordLaws, values, single_value, word_value}
use Rattle.cell_exprs.proofs.Reducing.{HasFewBits, reduced_value}

-- ---- kinds of types and operators

-- types whose values are one word, and whole constants
abbrev pub is_one_word : Ty → Bool
is_one_word (t.Int n) = true
is_one_word (t.Uint n) = true
is_one_word (t.Angle n) = true
is_one_word t.Turn = true
is_one_word t.Whole = true
is_one_word _ = false

pub word_is_one : (a : Ty) → IsWord a → is_one_word a ≡ true
word_is_one (t.Int n) h = refl
word_is_one (t.Uint n) h = refl
word_is_one _ h = absurd h

abbrev pub IsRing : BinaryOp → Type 0
IsRing op.Add = Unit {0}
IsRing op.Subtract = Unit {0}
IsRing op.Multiply = Unit {0}
IsRing op.BitAnd = Unit {0}
IsRing op.BitOr = Unit {0}
IsRing op.BitXor = Unit {0}
IsRing _ = ⊥

-- what such an operator gives on whole numbers
abbrev pub ring_on : BinaryOp → ℤ → ℤ → ℤ
ring_on op.Add x y = x +ℤ y
ring_on op.Subtract x y = x -ℤ y
ring_on op.Multiply x y = x *ℤ y
ring_on op.BitAnd x y = int_and x y
ring_on op.BitOr x y = int_or x y
ring_on op.BitXor x y = int_xor x y
ring_on _ x y = x

pub ring_result : (o : BinaryOp) (x y : ℤ) → IsRing o → result_on_numbers o x y ≡ Some (ring_on o x y)
ring_result op.Add x y h = refl
ring_result op.Subtract x y h = refl
ring_result op.Multiply x y h = refl
ring_result op.BitAnd x y h = refl
ring_result op.BitOr x y h = refl
ring_result op.BitXor x y h = refl
ring_result _ x y h = absurd h

-- ---- values that are no parts of pi

abbrev pub IsNoPart : Value → Type 0
IsNoPart (PartOfPi p) = ⊥
IsNoPart _ = Unit {0}

pub value_is_no_part : (l : Ty) (x : Value) → is_one_word l ≡ true → IsValueOf l x → IsNoPart x
value_is_no_part l (PartOfPi p) h v = part l h v
  where
    part : (l : Ty) → is_one_word l ≡ true → IsValueOf l (PartOfPi p) → ⊥
    part t.Pi h v = cc
    part _ h v = v
value_is_no_part l _ h v = tt

pub applied_number : (o : BinaryOp) (m : Ty) (x y : Value) → IsNoPart x → IsNoPart y → IsInCells m → is_one_word m ≡ true
    → apply o m x y ≡ option_and_then (reduced_to m) (result_on_numbers o (number_of x) (number_of y))
applied_number o m (PartOfPi p) y h k c w = absurd h
applied_number o m x (PartOfPi q) h k c w = absurd k
applied_number o t.Bool x y h k c w = absurd cc
applied_number o m x y h k c w = refl

pub reduced_some : (m : Ty) (z : ℤ) → IsInCells m → (y : Value) × (reduced_to m z ≡ Some y)
reduced_some t.Whole z h = absurd h
reduced_some t.Pi z h = absurd h
reduced_some _ z h = (_, refl)

pub one_word_few : (m : Ty) → is_one_word m ≡ true → HasFewBits m
one_word_few (t.Bits n) h = absurd cc
one_word_few _ h = tt

pub one_word_parts : (m : Ty) (e : Expr) → is_one_word m ≡ true → reduced_parts m e ≡ reduced_part m e ∷ []
one_word_parts t.Bool e h = absurd cc
one_word_parts t.Bit e h = absurd cc
one_word_parts (t.Bits n) e h = absurd cc
one_word_parts t.Pi e h = absurd cc
one_word_parts _ e h = refl

module _ (laws : WordLaws) (cells : Cells) where
  -- the word of an operand
  pub operand_value : (l : Ty) (x : Value) (xs : List Expr) → is_one_word l ≡ true → IsType l → IsValueOf l x → HaveValue cells xs x → value_of (single_part xs) cells ≡ Word (word_of (number_of x))
  operand_value (t.Int n) x xs w h v e = word_value laws cells (t.Int n) x xs h v e
  operand_value (t.Uint n) x xs w h v e = word_value laws cells (t.Uint n) x xs h v e
  operand_value (t.Angle n) x xs w h v e = word_value laws cells (t.Angle n) x xs h v e
  operand_value t.Turn x xs w h v e = word_value laws cells t.Turn x xs h v e
  operand_value t.Whole (Number z) xs w h v e = single_value cells xs (Word (word_of z)) e
  operand_value t.Whole _ xs w h v e = absurd v
  operand_value _ x xs w h v e = absurd cc

  pub instruction_value : (o : BinaryOp) (m : Ty) (ex ey : Expr) (x y : ℤ) → IsRing o → value_of ex cells ≡ Word (word_of x) → value_of ey cells ≡ Word (word_of y)
      → value_of (Op (word_code o m) ex ey) cells ≡ Word (word_of (ring_on o x y))
  instruction_value op.Add m ex ey x y h p q = (λ i. value_or_zero (op_on code.Add (p i) (q i))) ∙ ap Word (laws.exact.sums x y)
  instruction_value op.Subtract m ex ey x y h p q = (λ i. value_or_zero (op_on code.Sub (p i) (q i))) ∙ ap Word (laws.exact.differences x y)
  instruction_value op.Multiply m ex ey x y h p q = (λ i. value_or_zero (op_on code.Mul (p i) (q i))) ∙ ap Word (laws.exact.products x y)
  instruction_value op.BitAnd m ex ey x y h p q = (λ i. value_or_zero (op_on code.And (p i) (q i))) ∙ ap Word (laws.exact.ands x y)
  instruction_value op.BitOr m ex ey x y h p q = (λ i. value_or_zero (op_on code.Or (p i) (q i))) ∙ ap Word (laws.exact.ors x y)
  instruction_value op.BitXor m ex ey x y h p q = (λ i. value_or_zero (op_on code.Xor (p i) (q i))) ∙ ap Word (laws.exact.xors x y)
  instruction_value _ m ex ey x y h p q = absurd h

  -- a word that is reduced to the type of the result
  pub settled_value : (m : Ty) (e : Expr) (z : ℤ) (y : Value) → IsInCells m → is_one_word m ≡ true → value_of e cells ≡ Word (word_of z) → reduced_to m z ≡ Some y
      → HaveValue cells (reduced_part m e ∷ []) y
  settled_value m e z y h w is to = ap (values cells) (sym (one_word_parts m e w)) ∙ reduced_value laws cells m z e y h (one_word_few m w) is to

  -- an operator with a word as its result
  pub word_operator : (o : BinaryOp) (l r m : Ty) (x y : Value) (xs ys : List Expr) → IsRing o → is_one_word l ≡ true → is_one_word r ≡ true → IsType l → IsType r → IsInCells m → is_one_word m ≡ true
      → IsValueOf l x → IsValueOf r y → HaveValue cells xs x → HaveValue cells ys y
      → (z : Value) × (apply o m x y ≡ Some z) × HaveValue cells (reduced_part m (Op (word_code o m) (single_part xs) (single_part ys)) ∷ []) z
  word_operator o l r m x y xs ys ring wl wr tl tr c wm vl vr ex ey =
      let n = ring_on o (number_of x) (number_of y) in
      let (z, to) = reduced_some m n c in
      let is = instruction_value o m (single_part xs) (single_part ys) (number_of x) (number_of y) ring (operand_value l x xs wl tl vl ex) (operand_value r y ys wr tr vr ey) in
      (z, applied_number o m x y (value_is_no_part l x wl vl) (value_is_no_part r y wr vr) c wm ∙ ap (option_and_then (reduced_to m)) (ring_result o (number_of x) (number_of y) ring) ∙ to, settled_value m (Op (word_code o m) (single_part xs) (single_part ys)) n z c wm is to)
