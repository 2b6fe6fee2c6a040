-- The parts of a value, and its number as a word.
use Rattle.std.proofs.Common.{◌≡◌, ℕ, ◌+◌, ◌-◌, ◌*◌, ◌^◌, ◌<◌, ◌≤◌, Bool, true, false, if◌then◌else◌, List, [], ◌∷◌, map, ℤ, pos, negsuc, ◌*ℤ◌, ◌≤ℤ◌, FitsSigned, refl, sym, ap, ◌∙◌, arith}
use Rattle.std.proofs.Math.Pow.{pow_mono}
use Rattle.std.proofs.lemmas.Nat.{pow_pos}
use Rattle.std.proofs.lemmas.Int.{ints}
use Rattle.std.specs.Int.{w64, int_wrapping_add}
use Rattle.word_arith.specs.WordTy.{least_value, greatest_value}
use Rattle.qasm_types.specs.declared.ty.Ty.{Ty}
use Rattle.qasm_types.specs.declared.ty.Ty.TheVariants as t
use Rattle.qasm_types.specs.Values.{Value, Truth, Register, Number, Count, Units, PartOfPi, IsValueOf, number_of, number_of_truth, number_of_bits}
use Rattle.qir_module.specs.Machine.{Word, Holds}
use Rattle.qir_module.specs.Machine as machine
use Rattle.qir_module.specs.declared.instruction.Opcode.TheVariants as code
use Rattle.core_ir.specs.Tree.{Expr, Widen, Op}
use Rattle.core_ir.specs.Tree as tree
use Rattle.core_ir.specs.Run.{Cells, value_of}
use Rattle.machine_words.specs.Words.{word_of}
use Rattle.machine_words.specs.Laws.{NumbersAreKept, WordsAreExact, SignedWordsAreExact, UnsignedWordsAreExact, WordsAreReduced}
use Rattle.cell_exprs.specs.Parts.{fixed_parts, single_part, number_of_parts, word_part}
use Rattle.cell_exprs.specs.Laws.{HaveValue, IsInCells}

-- the laws of words
pub record WordLaws : Type 0 where
  pub kept : NumbersAreKept
  pub exact : WordsAreExact
  pub signed : SignedWordsAreExact
  pub unsigned : UnsignedWordsAreExact
  pub reduced : WordsAreReduced

abbrev pub values : Cells → List Expr → List machine.Value
values cells parts = map (λ (e : Expr). value_of e cells) parts

pub single_value : (cells : Cells) (parts : List Expr) (v : machine.Value) → values cells parts ≡ v ∷ [] → value_of (single_part parts) cells ≡ v
single_value cells [] v e = absurd cc
single_value cells (p ∷ ps) v e = cc

pub fixed_have_values : (cells : Cells) (x : Value) → HaveValue cells (fixed_parts x) x
fixed_have_values cells (Truth b) = refl
fixed_have_values cells (Register bits) = registers bits
  where
    registers : (bits : List Bool) → values cells (map tree.Truth bits) ≡ map Holds bits
    registers [] = refl
    registers (b ∷ bits) = ap (λ r. Holds b ∷ r) (registers bits)
fixed_have_values cells (Number z) = refl
fixed_have_values cells (Count c) = refl
fixed_have_values cells (Units z) = refl
fixed_have_values cells (PartOfPi p) = refl

-- ---- values in the range of words

pub int_fits : (n : ℕ) (z : ℤ) → 1 ≤ n → n ≤ 64 → least_value true n ≤ℤ z → z ≤ℤ greatest_value true n → FitsSigned w64 z
int_fits n (pos a) some few l h =
    let le : n - 1 ≤ 63 = omega arith in
    let most : 2 ^ (n - 1) ≤ 2 ^ 63 = pow_mono le in
    record { sfits = omega (arith, ints, most, l, h, pow_pos (n - 1)) }
int_fits n (negsuc a) some few l h =
    let le : n - 1 ≤ 63 = omega arith in
    let most : 2 ^ (n - 1) ≤ 2 ^ 63 = pow_mono le in
    record { sfits = omega (arith, ints, most, l, h, pow_pos (n - 1)) }

pub uint_below : (n m : ℕ) → n ≤ 64 → pos m ≤ℤ greatest_value false n → m < 2 ^ 64
uint_below n m few h = let most : 2 ^ n ≤ 2 ^ 64 = pow_mono few in omega (arith, ints, most, h, pow_pos n)

pub count_below : (n c : ℕ) → n ≤ 32 → c < 2 ^ n → c < 2 ^ 32
count_below n c few h = let most : 2 ^ n ≤ 2 ^ 32 = pow_mono few in omega arith

-- ---- the word of a value's number

module _ (laws : WordLaws) (cells : Cells) where
  pub small_word : (n : ℕ) → n < 2 ^ 63 → word_of (pos n) ≡ pos n
  small_word n h = laws.kept.words (pos n) (record { sfits = h })

  widened : (b : Bool) → Word (if b then pos 1 else pos 0) ≡ Word (word_of (pos (number_of_truth b)))
  widened true = ap Word (sym (small_word 1 (omega arith)))
  widened false = ap Word (sym (small_word 0 (omega arith)))

  wide_value : (e : Expr) (b : Bool) → value_of e cells ≡ Holds b → value_of (Widen e) cells ≡ Word (word_of (pos (number_of_truth b)))
  wide_value e b is = rw is (widened b)

  next_bit : (e rest : Expr) (b : Bool) (n : ℕ) → value_of e cells ≡ Holds b → value_of rest cells ≡ Word (word_of (pos n))
      → value_of (Op code.Add (Widen e) (Op code.Shl rest (tree.Number (pos 1)))) cells ≡ Word (word_of (pos (number_of_truth b + 2 * n)))
  next_bit e rest b n is later =
      let twice : pos n *ℤ pos (2 ^ 1) ≡ pos (2 * n) = omega (arith, ints) in
      rw (is, later) (ap Word ((λ i. int_wrapping_add w64 (bare (widened b) i) ((laws.exact.left (pos n) 1 ∙ ap word_of twice) i)) ∙ laws.exact.sums (pos (number_of_truth b)) (pos (2 * n))))
    where
      word_in : machine.Value → ℤ
      word_in (Word z) = z
      word_in (Holds b) = pos 0

      bare : {x y : ℤ} → Word x ≡ Word y → x ≡ y
      bare e = cc

  pub number_value : (parts : List Expr) (bits : List Bool) → values cells parts ≡ map Holds bits → value_of (number_of_parts parts) cells ≡ Word (word_of (pos (number_of_bits bits)))
  number_value [] [] e = ap Word (sym (small_word 0 (omega arith)))
  number_value [] (b ∷ bits) e = absurd cc
  number_value (p ∷ ps) [] e = absurd cc
  number_value (p ∷ ps) (b ∷ bits) e =
      let first : value_of p cells ≡ Holds b = cc in
      let rest : values cells ps ≡ map Holds bits = cc in
      next_bit p (number_of_parts ps) b (number_of_bits bits) first (number_value ps bits rest)

  pub word_value : (a : Ty) (x : Value) (parts : List Expr) → IsInCells a → IsValueOf a x → HaveValue cells parts x → value_of (word_part a parts) cells ≡ Word (word_of (number_of x))
  word_value t.Bool (Truth b) parts h v e = wide_value (single_part parts) b (single_value cells parts (Holds b) e)
  word_value t.Bit (Truth b) parts h v e = wide_value (single_part parts) b (single_value cells parts (Holds b) e)
  word_value (t.Bits n) (Register bits) parts h v e = number_value parts bits e
  word_value (t.Int n) (Number z) parts h v e = single_value cells parts (Word (word_of z)) e
  word_value (t.Uint n) (Number z) parts h v e = single_value cells parts (Word (word_of z)) e
  word_value (t.Angle n) (Count c) parts h v e =
      let below = count_below n c h.1 v in
      single_value cells parts (Word (pos c)) e ∙ ap Word (sym (small_word c (omega arith)))
  word_value t.Turn (Units z) parts h v e =
      let some : 1 ≤ 64 = omega arith in
      let few : 64 ≤ 64 = omega arith in
      single_value cells parts (Word z) e ∙ ap Word (sym (laws.kept.words z (int_fits 64 z some few v.0 v.1)))
  word_value t.Whole x parts h v e = absurd h
  word_value t.Pi x parts h v e = absurd h
  word_value _ _ parts h v e = absurd v
