-- Comparisons and connectives over cells.
use Rattle.std.proofs.Common.{◌≡◌, ℕ, ◌+◌, ◌*◌, ◌^◌, ◌<◌, ◌≤◌, int_lt, int_le, Bool, true, false, not, List, [], ◌∷◌, length, map, ℤ, pos, negsuc, FitsSigned, Some, refl, sym, ap, subst, ◌∙◌, arith}
use Rattle.std.proofs.lemmas.Bool.Decides.{Decides-int_eq}
use Rattle.std.proofs.lemmas.Int.{ints}
use Rattle.std.specs.Int.{w64}
use Rattle.std.specs.Ordering.{int_eq}
use Rattle.qasm_ast.specs.declared.expr.BinaryOp.{BinaryOp}
use Rattle.qasm_ast.specs.declared.expr.BinaryOp.TheVariants as op
use Rattle.qasm_types.specs.declared.ty.Ty.TheVariants as t
use Rattle.qasm_types.specs.Types.{IsType}
use Rattle.qasm_types.specs.Values.{Value, Truth, Register, Number, Count, Units, IsValueOf, number_of, number_of_truth, number_of_bits, test_on_numbers}
use Rattle.qir_module.specs.Machine.{Word, Holds, differ}
use Rattle.qir_module.specs.declared.instruction.Opcode.{Opcode}
use Rattle.qir_module.specs.declared.instruction.Opcode.TheVariants as code
use Rattle.core_ir.specs.Tree.{Expr, Op}
use Rattle.core_ir.specs.Run.{Cells, value_of, op_on, value_or_zero}
use Rattle.machine_words.specs.Words.{word_of}
use Rattle.cell_exprs.specs.Parts.{single_part, word_code, truth_code, paired, any_part, where_equal}
use Rattle.cell_exprs.specs.Laws.{HaveValue}
use Rattle.cell_exprs.proofs.Numbers.{WordLaws, values, single_value, int_fits, uint_below, count_below, small_word}
use Rattle.cell_exprs.proofs.Tests.{any_value, not_value}

abbrev pub IsComparison : BinaryOp → Type 0
IsComparison op.Equal = Unit {0}
IsComparison op.NotEqual = Unit {0}
IsComparison op.Less = Unit {0}
IsComparison op.LessEqual = Unit {0}
IsComparison op.Greater = Unit {0}
IsComparison op.GreaterEqual = Unit {0}
IsComparison _ = ⊥

abbrev pub IsEquality : BinaryOp → Type 0
IsEquality op.Equal = Unit {0}
IsEquality op.NotEqual = Unit {0}
IsEquality _ = ⊥

abbrev pub IsConnective : BinaryOp → Type 0
IsConnective op.And = Unit {0}
IsConnective op.Or = Unit {0}
IsConnective _ = ⊥

-- ---- equal bits

same_test : (a b : Bool) → (a ≡ true → b ≡ true) → (b ≡ true → a ≡ true) → a ≡ b
same_test true true f g = refl
same_test false false f g = refl
same_test true false f g = sym (f refl)
same_test false true f g = g refl

abbrev bits_differ : List Bool → List Bool → List Bool
bits_differ [] bs = []
bits_differ (a ∷ as') [] = []
bits_differ (a ∷ as') (b ∷ bs) = differ a b ∷ bits_differ as' bs

pos_is : {m n : ℕ} → pos m ≡ pos n → m ≡ n
pos_is e = cc

-- one more bit, the lowest, of two numbers
next_equal : (a b : Bool) (d m n : ℕ) → int_eq (pos d) (pos 0) ≡ int_eq (pos m) (pos n)
    → int_eq (pos (number_of_truth (differ a b) + 2 * d)) (pos 0) ≡ int_eq (pos (number_of_truth a + 2 * m)) (pos (number_of_truth b + 2 * n))
next_equal a b d m n e = same_test _ _
    (λ h. let none = pos_is ((Decides-int_eq _ _).0 h) in (Decides-int_eq _ _).1 (ap pos (forward a b none)))
    (λ h. let same = pos_is ((Decides-int_eq _ _).0 h) in (Decides-int_eq _ _).1 (ap pos (backward a b same)))
  where
    then_same : d ≡ 0 → m ≡ n
    then_same h = let yes : int_eq (pos d) (pos 0) ≡ true = (Decides-int_eq (pos d) (pos 0)).1 (ap pos h) in pos_is ((Decides-int_eq (pos m) (pos n)).0 (sym e ∙ yes))

    then_none : m ≡ n → d ≡ 0
    then_none h = let yes : int_eq (pos m) (pos n) ≡ true = (Decides-int_eq (pos m) (pos n)).1 (ap pos h) in pos_is ((Decides-int_eq (pos d) (pos 0)).0 (e ∙ yes))

    forward : (a b : Bool) → number_of_truth (differ a b) + 2 * d ≡ 0 → number_of_truth a + 2 * m ≡ number_of_truth b + 2 * n
    forward true true h = let s = then_same (omega arith) in omega (arith, s)
    forward false false h = let s = then_same (omega arith) in omega (arith, s)
    forward true false h = absurd (omega arith)
    forward false true h = absurd (omega arith)

    backward : (a b : Bool) → number_of_truth a + 2 * m ≡ number_of_truth b + 2 * n → number_of_truth (differ a b) + 2 * d ≡ 0
    backward true true h = let s = then_none (omega arith) in omega (arith, s)
    backward false false h = let s = then_none (omega arith) in omega (arith, s)
    backward true false h = absurd (omega arith)
    backward false true h = absurd (omega arith)

differ_is_equal : (as' bs : List Bool) → length as' ≡ length bs → int_eq (pos (number_of_bits (bits_differ as' bs))) (pos 0) ≡ int_eq (pos (number_of_bits as')) (pos (number_of_bits bs))
differ_is_equal [] [] e = refl
differ_is_equal [] (b ∷ bs) e = absurd cc
differ_is_equal (a ∷ as') [] e = absurd cc
differ_is_equal (a ∷ as') (b ∷ bs) e =
    next_equal a b (number_of_bits (bits_differ as' bs)) (number_of_bits as') (number_of_bits bs) (differ_is_equal as' bs (let l : length as' ≡ length bs = omega arith in l))

-- ---- instructions by the sign of a type

pub int_code : (o : BinaryOp) (n : ℕ) → word_code o (t.Int 64) ≡ word_code o (t.Int n)
int_code op.Add n = refl
int_code _ n = refl

pub turn_code : (o : BinaryOp) → word_code o (t.Int 64) ≡ word_code o t.Turn
turn_code op.Add = refl
turn_code _ = refl

pub uint_code : (o : BinaryOp) (n : ℕ) → word_code o (t.Uint 64) ≡ word_code o (t.Uint n)
uint_code op.Add n = refl
uint_code _ n = refl

pub angle_code : (o : BinaryOp) (n : ℕ) → word_code o (t.Uint 64) ≡ word_code o (t.Angle n)
angle_code op.Add n = refl
angle_code _ n = refl

module _ (laws : WordLaws) (cells : Cells) where
  -- ---- words

  abbrev Decided : BinaryOp → ℤ → ℤ → Expr → Type 0
  Decided o x y e = (b : Bool) × (test_on_numbers o x y ≡ Some b) × (value_of e cells ≡ Holds b)

  signed_int : (o : BinaryOp) (ex ey : Expr) (x y : ℤ) → IsComparison o → FitsSigned w64 x → FitsSigned w64 y → value_of ex cells ≡ Word (word_of x) → value_of ey cells ≡ Word (word_of y)
      → Decided o x y (Op (word_code o (t.Int 64)) ex ey)
  signed_int op.Equal ex ey x y h f g p q = (int_eq x y, refl, (λ i. value_or_zero (op_on code.Eq (p i) (q i))) ∙ ap Holds (laws.signed.equal x y f g))
  signed_int op.NotEqual ex ey x y h f g p q = (not (int_eq x y), refl, (λ i. value_or_zero (op_on code.Ne (p i) (q i))) ∙ ap (λ b. Holds (not b)) (laws.signed.equal x y f g))
  signed_int op.Less ex ey x y h f g p q = (int_lt x y, refl, (λ i. value_or_zero (op_on code.Slt (p i) (q i))) ∙ ap Holds (laws.signed.less x y f g))
  signed_int op.LessEqual ex ey x y h f g p q = (int_le x y, refl, (λ i. value_or_zero (op_on code.Sle (p i) (q i))) ∙ ap Holds (laws.signed.at_most x y f g))
  signed_int op.Greater ex ey x y h f g p q = (int_lt y x, refl, (λ i. value_or_zero (op_on code.Sgt (p i) (q i))) ∙ ap Holds (laws.signed.less y x g f))
  signed_int op.GreaterEqual ex ey x y h f g p q = (int_le y x, refl, (λ i. value_or_zero (op_on code.Sge (p i) (q i))) ∙ ap Holds (laws.signed.at_most y x g f))
  signed_int _ ex ey x y h f g p q = absurd h

  unsigned_int : (o : BinaryOp) (ex ey : Expr) (m n : ℕ) → IsComparison o → m < 2 ^ 64 → n < 2 ^ 64 → value_of ex cells ≡ Word (word_of (pos m)) → value_of ey cells ≡ Word (word_of (pos n))
      → Decided o (pos m) (pos n) (Op (word_code o (t.Uint 64)) ex ey)
  unsigned_int op.Equal ex ey m n h f g p q = (int_eq (pos m) (pos n), refl, (λ i. value_or_zero (op_on code.Eq (p i) (q i))) ∙ ap Holds (laws.unsigned.equal m n f g))
  unsigned_int op.NotEqual ex ey m n h f g p q = (not (int_eq (pos m) (pos n)), refl, (λ i. value_or_zero (op_on code.Ne (p i) (q i))) ∙ ap (λ b. Holds (not b)) (laws.unsigned.equal m n f g))
  unsigned_int op.Less ex ey m n h f g p q = (int_lt (pos m) (pos n), refl, (λ i. value_or_zero (op_on code.Ult (p i) (q i))) ∙ ap Holds (laws.unsigned.less m n f g))
  unsigned_int op.LessEqual ex ey m n h f g p q = (int_le (pos m) (pos n), refl, (λ i. value_or_zero (op_on code.Ule (p i) (q i))) ∙ ap Holds (laws.unsigned.at_most m n f g))
  unsigned_int op.Greater ex ey m n h f g p q = (int_lt (pos n) (pos m), refl, (λ i. value_or_zero (op_on code.Ugt (p i) (q i))) ∙ ap Holds (laws.unsigned.less n m g f))
  unsigned_int op.GreaterEqual ex ey m n h f g p q = (int_le (pos n) (pos m), refl, (λ i. value_or_zero (op_on code.Uge (p i) (q i))) ∙ ap Holds (laws.unsigned.at_most n m g f))
  unsigned_int _ ex ey m n h f g p q = absurd h

  -- a test of values with one result of the table for two numbers
  abbrev pub Tested : BinaryOp → Value → Value → Expr → Type 0
  Tested o x y e = (b : Bool) × (test_on_numbers o (number_of x) (number_of y) ≡ Some b) × (value_of e cells ≡ Holds b)

  pub int_test : (o : BinaryOp) (n : ℕ) (x y : Value) (xs ys : List Expr) → IsComparison o → IsType (t.Int n) → IsValueOf (t.Int n) x → IsValueOf (t.Int n) y → HaveValue cells xs x → HaveValue cells ys y
      → Tested o x y (Op (word_code o (t.Int n)) (single_part xs) (single_part ys))
  int_test o n (Number x) (Number y) xs ys h ty vx vy p q =
      let P : Opcode → Type 0 = λ c. Tested o (Number x) (Number y) (Op c (single_part xs) (single_part ys)) in
      subst P (int_code o n)
      (signed_int o (single_part xs) (single_part ys) x y h (int_fits n x ty.0 ty.1 vx.0 vx.1) (int_fits n y ty.0 ty.1 vy.0 vy.1) (single_value cells xs (Word (word_of x)) p) (single_value cells ys (Word (word_of y)) q))
  int_test o n (Number x) _ xs ys h ty vx vy p q = absurd vy
  int_test o n _ y xs ys h ty vx vy p q = absurd vx

  pub uint_test : (o : BinaryOp) (n : ℕ) (x y : Value) (xs ys : List Expr) → IsComparison o → IsType (t.Uint n) → IsValueOf (t.Uint n) x → IsValueOf (t.Uint n) y → HaveValue cells xs x → HaveValue cells ys y
      → Tested o x y (Op (word_code o (t.Uint n)) (single_part xs) (single_part ys))
  uint_test o n (Number (pos m)) (Number (pos k)) xs ys h ty vx vy p q =
      let P : Opcode → Type 0 = λ c. Tested o (Number (pos m)) (Number (pos k)) (Op c (single_part xs) (single_part ys)) in
      subst P (uint_code o n)
      (unsigned_int o (single_part xs) (single_part ys) m k h (uint_below n m ty.1 vx.1) (uint_below n k ty.1 vy.1) (single_value cells xs (Word (word_of (pos m))) p) (single_value cells ys (Word (word_of (pos k))) q))
  uint_test o n (Number (pos m)) (Number (negsuc k)) xs ys h ty vx vy p q = absurd (omega (arith, ints, vy.0))
  uint_test o n (Number (negsuc m)) y xs ys h ty vx vy p q = absurd (omega (arith, ints, vx.0))
  uint_test o n (Number (pos m)) _ xs ys h ty vx vy p q = absurd vy
  uint_test o n _ y xs ys h ty vx vy p q = absurd vx

  pub angle_test : (o : BinaryOp) (n : ℕ) (x y : Value) (xs ys : List Expr) → IsComparison o → IsType (t.Angle n) → IsValueOf (t.Angle n) x → IsValueOf (t.Angle n) y → HaveValue cells xs x → HaveValue cells ys y
      → Tested o x y (Op (word_code o (t.Angle n)) (single_part xs) (single_part ys))
  angle_test o n (Count m) (Count k) xs ys h ty vx vy p q =
      let few_m = count_below n m ty.1 vx in
      let few_k = count_below n k ty.1 vy in
      let P : Opcode → Type 0 = λ c. Tested o (Count m) (Count k) (Op c (single_part xs) (single_part ys)) in
      subst P (angle_code o n)
      (unsigned_int o (single_part xs) (single_part ys) m k h (omega arith) (omega arith)
      (single_value cells xs (Word (pos m)) p ∙ ap Word (sym (small_word laws cells m (omega arith)))) (single_value cells ys (Word (pos k)) q ∙ ap Word (sym (small_word laws cells k (omega arith)))))
  angle_test o n (Count m) _ xs ys h ty vx vy p q = absurd vy
  angle_test o n _ y xs ys h ty vx vy p q = absurd vx

  pub turn_test : (o : BinaryOp) (x y : Value) (xs ys : List Expr) → IsComparison o → IsValueOf t.Turn x → IsValueOf t.Turn y → HaveValue cells xs x → HaveValue cells ys y
      → Tested o x y (Op (word_code o t.Turn) (single_part xs) (single_part ys))
  turn_test o (Units x) (Units y) xs ys h vx vy p q =
      let some : 1 ≤ 64 = omega arith in
      let few : 64 ≤ 64 = omega arith in
      let f = int_fits 64 x some few vx.0 vx.1 in
      let g = int_fits 64 y some few vy.0 vy.1 in
      let P : Opcode → Type 0 = λ c. Tested o (Units x) (Units y) (Op c (single_part xs) (single_part ys)) in
      subst P (turn_code o)
      (signed_int o (single_part xs) (single_part ys) x y h f g
      (single_value cells xs (Word x) p ∙ ap Word (sym (laws.kept.words x f))) (single_value cells ys (Word y) q ∙ ap Word (sym (laws.kept.words y g))))
  turn_test o (Units x) _ xs ys h vx vy p q = absurd vy
  turn_test o _ y xs ys h vx vy p q = absurd vx

  -- ---- truth values

  pub truth_test : (o : BinaryOp) (a b : Bool) (ex ey : Expr) → IsEquality o → value_of ex cells ≡ Holds a → value_of ey cells ≡ Holds b → Tested o (Truth a) (Truth b) (where_equal o (Op code.Xor ex ey))
  truth_test op.Equal true true ex ey h p q = (true, refl, rw (p, q) refl)
  truth_test op.Equal true false ex ey h p q = (false, refl, rw (p, q) refl)
  truth_test op.Equal false true ex ey h p q = (false, refl, rw (p, q) refl)
  truth_test op.Equal false false ex ey h p q = (true, refl, rw (p, q) refl)
  truth_test op.NotEqual true true ex ey h p q = (false, refl, rw (p, q) refl)
  truth_test op.NotEqual true false ex ey h p q = (true, refl, rw (p, q) refl)
  truth_test op.NotEqual false true ex ey h p q = (true, refl, rw (p, q) refl)
  truth_test op.NotEqual false false ex ey h p q = (false, refl, rw (p, q) refl)
  truth_test _ a b ex ey h p q = absurd h

  pub connected_test : (o : BinaryOp) (a b : Bool) (ex ey : Expr) → IsConnective o → value_of ex cells ≡ Holds a → value_of ey cells ≡ Holds b → Tested o (Truth a) (Truth b) (Op (truth_code o) ex ey)
  connected_test op.And true true ex ey h p q = (true, refl, rw (p, q) refl)
  connected_test op.And true false ex ey h p q = (false, refl, rw (p, q) refl)
  connected_test op.And false true ex ey h p q = (false, refl, rw (p, q) refl)
  connected_test op.And false false ex ey h p q = (false, refl, rw (p, q) refl)
  connected_test op.Or true true ex ey h p q = (true, refl, rw (p, q) refl)
  connected_test op.Or true false ex ey h p q = (true, refl, rw (p, q) refl)
  connected_test op.Or false true ex ey h p q = (true, refl, rw (p, q) refl)
  connected_test op.Or false false ex ey h p q = (false, refl, rw (p, q) refl)
  connected_test _ a b ex ey h p q = absurd h

  -- ---- registers

  differing : (xs ys : List Expr) (as' bs : List Bool) → values cells xs ≡ map Holds as' → values cells ys ≡ map Holds bs → values cells (paired code.Xor xs ys) ≡ map Holds (bits_differ as' bs)
  differing [] ys [] bs p q = refl
  differing [] ys (a ∷ as') bs p q = absurd cc
  differing (x ∷ xs) ys [] bs p q = absurd cc
  differing (x ∷ xs) [] (a ∷ as') [] p q = refl
  differing (x ∷ xs) [] (a ∷ as') (b ∷ bs) p q = absurd cc
  differing (x ∷ xs) (y ∷ ys) (a ∷ as') [] p q = absurd cc
  differing (x ∷ xs) (y ∷ ys) (a ∷ as') (b ∷ bs) p q =
      let first : value_of x cells ≡ Holds a = cc in
      let second : value_of y cells ≡ Holds b = cc in
      let is : value_of (Op code.Xor x y) cells ≡ Holds (differ a b) = rw (first, second) refl in
      let left : values cells xs ≡ map Holds as' = cc in
      let right : values cells ys ≡ map Holds bs = cc in
      let rest = differing xs ys as' bs left right in
      λ i. is i ∷ rest i

  not_not : (b : Bool) → not (not b) ≡ b
  not_not true = refl
  not_not false = refl

  pub bits_test : (o : BinaryOp) (as' bs : List Bool) (xs ys : List Expr) → IsEquality o → length as' ≡ length bs → values cells xs ≡ map Holds as' → values cells ys ≡ map Holds bs
      → Tested o (Register as') (Register bs) (where_equal o (any_part (paired code.Xor xs ys)))
  bits_test op.Equal as' bs xs ys h l p q =
      let is = any_value cells (paired code.Xor xs ys) (bits_differ as' bs) (differing xs ys as' bs p q) in
      (int_eq (pos (number_of_bits as')) (pos (number_of_bits bs)), refl, not_value cells (any_part (paired code.Xor xs ys)) _ is ∙ ap Holds (not_not _ ∙ differ_is_equal as' bs l))
  bits_test op.NotEqual as' bs xs ys h l p q =
      let is = any_value cells (paired code.Xor xs ys) (bits_differ as' bs) (differing xs ys as' bs p q) in
      (not (int_eq (pos (number_of_bits as')) (pos (number_of_bits bs))), refl, is ∙ ap (λ b. Holds (not b)) (differ_is_equal as' bs l))
  bits_test _ as' bs xs ys h l p q = absurd h
