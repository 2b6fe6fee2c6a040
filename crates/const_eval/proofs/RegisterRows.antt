-- Registers of bits as operators take them.
use Rattle.std.proofs.Common.{int_lt, FitsSigned, to_z, of_z, ◌≡◌, ℕ, zero, suc, ◌+◌, ◌-◌, ◌%◌, ◌^◌, max, ◌<◌, min, Bool, true, false, not, ◌&&◌, ◌||◌, if◌then◌else◌, List, [], ◌∷◌, ◌++◌, length, take, drop, replicate, ℤ, pos, unsigned_abs, Option, Some, Result, Ok, refl, sym, ap, ◌∙◌, arith, bit_and, bit_or, bit_xor}
use Rattle.std.specs.Bool.{Decides, beq}
use Rattle.std.specs.Cmp.{booleans_Decides}
use Rattle.std.specs.Cmp.Lexicographic.{pointwise, pointwise_decides}
use Rattle.std.specs.Int.{w128}
use Rattle.std.specs.Ordering.{int_eq}
use Rattle.std.proofs.lemmas.Bool.Decides.{Decides-int_eq, same_from_decides}
use Rattle.std.proofs.lemmas.Int.{ints, to_z-of_z, to_z_pos}
use Rattle.std.proofs.lemmas.Nat.Bits.{bit_at_and, bit_at_or, bit_at_xor}
use Rattle.std.proofs.lemmas.List.{length-append, length-drop, length-replicate, length-take}
use Rattle.qq_base.specs.declared.refusal.Fault.{Fault}
use Rattle.qq_base.specs.declared.refusal.Refusal.{Refusal}
use Rattle.qq_base.specs.declared.refusal.Span.{Span}
use Rattle.qasm_ast.specs.declared.expr.BinaryOp.{BinaryOp}
use Rattle.qasm_ast.specs.declared.expr.BinaryOp.TheVariants as op
use Rattle.qasm_types.specs.Operators.{group_of, Group}
use Rattle.qasm_types.specs.Plans.{casts}
use Rattle.qasm_types.specs.Values.{Value, Truth, Register, Number, Count, Units, PartOfPi, apply, cast, number_of_bits, number_of_truth, taken}
use Rattle.qasm_types.specs.declared.ty.Ty.{Ty}
use Rattle.qasm_types.specs.declared.ty.Ty.TheVariants as t
use Rattle.const_eval.specs.declared.constant.Const.{Const}
use Rattle.const_eval.specs.declared.constant.Const.TheVariants as k
use Rattle.const_eval.specs.Answers.{Answers}
use Rattle.const_eval.specs.Constant.{Constant, register_of, whole_in}
use Rattle.const_eval.specs.ConstantRows.{ConstantRow, Tested, OnWholes, OnBits, OnAngles, AngleBy, ByAngle, OnParts, PartsTested, PartBy, ByPart, OnRegisters, RegistersEqual, RegisterShifted, IsRowOf, is_bitwise}
use Rattle.const_eval.specs.ConstOperators.{computed_at, taken_at}
use Rattle.const_eval.specs.Numbered.{is_numbered}
use Rattle.const_eval.specs.Registered.{bit_result, is_shift, moved_left, moved_right, paired, paired_type, pairs}
use Rattle.const_eval.specs.Refusing.{go_on}
use Rattle.const_eval.specs.Results.{constant_in_range}
use Rattle.const_eval.specs.Seen.{constant_of}
use Rattle.const_eval.proofs.BitNumbers.{bits_by, bits_of-by, bits_of-left, bits_of-right, same_bits_from_number}
use Rattle.const_eval.proofs.Parts.{whole_taken}

-- ---- rows

number_is_no_register : (m : Ty) (n : ℕ) → is_numbered m ≡ true → m ≡ t.Bits n → ⊥
number_is_no_register m n number is = let no_register = rw is at number in absurd cc

bit_is_no_register : (m : Ty) (n : ℕ) → is_bitwise m ≡ true → m ≡ t.Bits n → ⊥
bit_is_no_register m n bit is = let no_register = rw is at bit in absurd cc

-- two registers
pub record OfRegisters (g : Group) (n : ℕ) (r m : Ty) : Type 0 where
  pub group : pairs g ≡ true
  pub right : r ≡ t.Bits n
  pub type : m ≡ paired_type g (t.Bits n)

pub two_registers : (g : Group) (l r m : Ty) (n : ℕ) → ConstantRow g l r m → l ≡ t.Bits n → is_shift g ≡ false → OfRegisters g n r m
two_registers g l r m n (Tested g' m' e number) left shift = absurd (number_is_no_register m' n number left)
two_registers g l r m n (OnWholes g') left shift = absurd cc
two_registers g l r m n (OnBits m' e) left shift = absurd (bit_is_no_register m' n e left)
two_registers g l r m n (OnAngles j) left shift = absurd cc
two_registers g l r m n (AngleBy g' j e) left shift = absurd cc
two_registers g l r m n (ByAngle j) left shift = absurd cc
two_registers g l r m n OnParts left shift = absurd cc
two_registers g l r m n (PartsTested g' e) left shift = absurd cc
two_registers g l r m n (PartBy g' e) left shift = absurd cc
two_registers g l r m n ByPart left shift = absurd cc
two_registers g l r m n (OnRegisters j) left shift = record { group = refl; right = left; type = left }
two_registers g l r m n (RegistersEqual j) left shift = record { group = refl; right = left; type = refl }
two_registers g l r m n (RegisterShifted j) left shift = absurd cc

-- a register and an amount
pub register_and_amount : (g : Group) (l r m : Ty) (n : ℕ) → ConstantRow g l r m → l ≡ t.Bits n → is_shift g ≡ true → (r ≡ t.Whole) × (m ≡ t.Bits n)
register_and_amount g l r m n (Tested g' m' e number) left shift = absurd (number_is_no_register m' n number left)
register_and_amount g l r m n (OnWholes g') left shift = absurd cc
register_and_amount g l r m n (OnBits m' e) left shift = absurd (bit_is_no_register m' n e left)
register_and_amount g l r m n (OnAngles j) left shift = absurd cc
register_and_amount g l r m n (AngleBy g' j e) left shift = absurd cc
register_and_amount g l r m n (ByAngle j) left shift = absurd cc
register_and_amount g l r m n OnParts left shift = absurd cc
register_and_amount g l r m n (PartsTested g' e) left shift = absurd cc
register_and_amount g l r m n (PartBy g' e) left shift = absurd cc
register_and_amount g l r m n ByPart left shift = absurd cc
register_and_amount g l r m n (OnRegisters j) left shift = absurd cc
register_and_amount g l r m n (RegistersEqual j) left shift = absurd cc
register_and_amount g l r m n (RegisterShifted j) left shift = (refl, left)

-- ---- operands

-- at a register an operand is taken as it is cast
taken_at_register : (a : Ty) (v : Value) (n : ℕ) → taken a v (t.Bits n) ≡ cast a v (t.Bits n)
taken_at_register t.Pi (Truth b) n = refl
taken_at_register t.Pi (Register bits) n = refl
taken_at_register t.Pi (Number z) n = refl
taken_at_register t.Pi (Count c) n = refl
taken_at_register t.Pi (Units z) n = refl
taken_at_register t.Pi (PartOfPi p) n = refl
taken_at_register _ v n = refl

-- and at a whole number, where it is one
amount_taken : (c : Const) → casts (constant_of c).type (whole_in (constant_of c)) t.Whole ≡ true → taken (constant_of c).type (constant_of c).value t.Whole ≡ Some (Number (whole_in (constant_of c)))
amount_taken (k.Whole w) e = whole_taken w
amount_taken (k.Pi f) e = absurd cc
amount_taken (k.Bool b) e = absurd cc
amount_taken (k.Bits bits) e = absurd cc
amount_taken (k.Angle a) e = absurd cc

-- ---- what is computed

-- the value of an operator on operands that are taken, if they have values
abbrev pub computed_from : BinaryOp → Span → Span → Span → Ty → Option Value → Option Value → Result Constant Refusal
computed_from o place left right m p q =
    go_on (taken_at left p) (λ x. go_on (taken_at right q) (λ y. constant_in_range place m (apply o m x y)))

module _ (o : BinaryOp) (place left right : Span) (x y : Const) (l r m : Ty) (n : ℕ) (row : IsRowOf o (constant_of x) (constant_of y) (l, r, m)) (is_left : l ≡ t.Bits n) where
  pub left_casts : casts (constant_of x).type (whole_in (constant_of x)) (t.Bits n) ≡ true
  left_casts = rw is_left at row.1

  abbrev pub due : Result Constant Refusal
  due = computed_at o place (constant_of x) left (constant_of y) right (l, r, m)

  module _ (pair : is_shift (group_of o) ≡ false) where
    of_registers : OfRegisters (group_of o) n r m
    of_registers = two_registers (group_of o) l r m n row.0 is_left pair

    pub pair_group : pairs (group_of o) ≡ true
    pair_group = of_registers.group

    pub right_casts : casts (constant_of y).type (whole_in (constant_of y)) (t.Bits n) ≡ true
    right_casts = rw of_registers.right at row.2

    pub pair_computed : (xs ys : List Bool) → cast (constant_of x).type (constant_of x).value (t.Bits n) ≡ Some (Register xs) → cast (constant_of y).type (constant_of y).value (t.Bits n) ≡ Some (Register ys)
        → due ≡ constant_in_range place (paired_type (group_of o) (t.Bits n)) (apply o (paired_type (group_of o) (t.Bits n)) (Register xs) (Register ys))
    pair_computed xs ys is_x is_y =
        let first : taken (constant_of x).type (constant_of x).value l ≡ Some (Register xs) = ap (taken (constant_of x).type (constant_of x).value) is_left ∙ taken_at_register (constant_of x).type (constant_of x).value n ∙ is_x in
        let second : taken (constant_of y).type (constant_of y).value r ≡ Some (Register ys) = ap (taken (constant_of y).type (constant_of y).value) of_registers.right ∙ taken_at_register (constant_of y).type (constant_of y).value n ∙ is_y in
        λ i. computed_from o place left right (of_registers.type i) (first i) (second i)

  module _ (shift : is_shift (group_of o) ≡ true) where
    of_amount : (r ≡ t.Whole) × (m ≡ t.Bits n)
    of_amount = register_and_amount (group_of o) l r m n row.0 is_left shift

    pub shift_computed : (xs : List Bool) → cast (constant_of x).type (constant_of x).value (t.Bits n) ≡ Some (Register xs)
        → due ≡ constant_in_range place (t.Bits n) (apply o (t.Bits n) (Register xs) (Number (whole_in (constant_of y))))
    shift_computed xs is_x =
        let first : taken (constant_of x).type (constant_of x).value l ≡ Some (Register xs) = ap (taken (constant_of x).type (constant_of x).value) is_left ∙ taken_at_register (constant_of x).type (constant_of x).value n ∙ is_x in
        let second : taken (constant_of y).type (constant_of y).value r ≡ Some (Number (whole_in (constant_of y))) = ap (taken (constant_of y).type (constant_of y).value) of_amount.0 ∙ amount_taken y (rw of_amount.0 at row.2) in
        λ i. computed_from o place left right (of_amount.1 i) (first i) (second i)

-- ---- bit by bit

paired-bits_by : (o : BinaryOp) (xs ys : List Bool) → paired o xs ys ≡ bits_by (bit_result o) xs ys
paired-bits_by o [] ys = refl
paired-bits_by o (x ∷ xs) [] = refl
paired-bits_by o (x ∷ xs) (y ∷ ys) = ap (λ r. bit_result o x y ∷ r) (paired-bits_by o xs ys)

pub length-paired : (o : BinaryOp) (xs ys : List Bool) → length xs ≡ length ys → length (paired o xs ys) ≡ length xs
length-paired o [] ys e = refl
length-paired o (x ∷ xs) [] e = absurd cc
length-paired o (x ∷ xs) (y ∷ ys) e = ap suc (length-paired o xs ys (omega arith))

-- ---- values

and_agrees : (a b : Bool) → number_of_truth (a && b) ≡ min (number_of_truth a) (number_of_truth b)
and_agrees true true = refl
and_agrees true false = refl
and_agrees false true = refl
and_agrees false false = refl

or_agrees : (a b : Bool) → number_of_truth (a || b) ≡ max (number_of_truth a) (number_of_truth b)
or_agrees true true = refl
or_agrees true false = refl
or_agrees false true = refl
or_agrees false false = refl

xor_agrees : (a b : Bool) → number_of_truth (if a then not b else b) ≡ (number_of_truth a + number_of_truth b) % 2
xor_agrees true true = refl
xor_agrees true false = refl
xor_agrees false true = refl
xor_agrees false false = refl

register_value : (place : Span) (o : BinaryOp) (xs ys found : List Bool) → length xs ≡ length ys → found ≡ bits_by (bit_result o) xs ys
    → constant_in_range place (t.Bits (length xs)) (Some (Register found)) ≡ Ok (register_of (paired o xs ys))
register_value place o xs ys found e is =
    let all : found ≡ paired o xs ys = is ∙ sym (paired-bits_by o xs ys) in
    let long : length xs ≡ length (paired o xs ys) = sym (length-paired o xs ys e) in
    λ i. Ok (record { type = t.Bits (long i); value = Register (all i) })

pub paired_value : (o : BinaryOp) (xs ys : List Bool) (place : Span) → length xs ≡ length ys → pairs (group_of o) ≡ true → (o ≡ op.Equal → ⊥) → (o ≡ op.NotEqual → ⊥)
    → constant_in_range place (paired_type (group_of o) (t.Bits (length xs))) (apply o (paired_type (group_of o) (t.Bits (length xs))) (Register xs) (Register ys)) ≡ Ok (register_of (paired o xs ys))
paired_value op.BitAnd xs ys place e pair equal other = register_value place op.BitAnd xs ys _ e (bits_of-by bit_and min (λ a b. a && b) bit_at_and and_agrees xs ys e)
paired_value op.BitOr xs ys place e pair equal other = register_value place op.BitOr xs ys _ e (bits_of-by bit_or max (λ a b. a || b) bit_at_or or_agrees xs ys e)
paired_value op.BitXor xs ys place e pair equal other = register_value place op.BitXor xs ys _ e (bits_of-by bit_xor (λ m n. (m + n) % 2) (λ a b. if a then not b else b) bit_at_xor xor_agrees xs ys e)
paired_value op.Equal xs ys place e pair equal other = absurd (equal refl)
paired_value op.NotEqual xs ys place e pair equal other = absurd (other refl)
paired_value _ xs ys place e pair equal other = absurd cc

-- whether registers of one width are equal
pub same_number : (xs ys : List Bool) → length xs ≡ length ys → Decides (int_eq (pos (number_of_bits xs)) (pos (number_of_bits ys))) (xs ≡ ys)
same_number xs ys e = (λ test. same_bits_from_number xs ys e (pos_same (d.0 test)), λ same. d.1 (ap (λ (bits : List Bool). pos (number_of_bits bits)) same))
  where
    d : Decides (int_eq (pos (number_of_bits xs)) (pos (number_of_bits ys))) (pos (number_of_bits xs) ≡ pos (number_of_bits ys))
    d = Decides-int_eq (pos (number_of_bits xs)) (pos (number_of_bits ys))

    pos_same : {m n : ℕ} → pos m ≡ pos n → m ≡ n
    pos_same e = cc

-- the test of registers of one width is that of their numbers
pub same_test : (test : Bool) (xs ys : List Bool) → length xs ≡ length ys → test ≡ pointwise beq xs ys → test ≡ int_eq (pos (number_of_bits xs)) (pos (number_of_bits ys))
same_test test xs ys e is = is ∙ same_from_decides (pointwise beq xs ys) (int_eq (pos (number_of_bits xs)) (pos (number_of_bits ys))) (pointwise_decides booleans_Decides xs ys) (same_number xs ys e)

-- ---- shifts

zeros_first : (n k : ℕ) (xs : List Bool) → take n (replicate k false ++ xs) ≡ replicate (min k n) false ++ take (n - min k n) xs
zeros_first n zero xs = let none : min 0 n ≡ 0 = omega arith in let all : n - 0 ≡ n = omega arith in rw (none, all) refl
zeros_first zero (suc k) xs = let none : min (suc k) 0 ≡ 0 = omega arith in rw none refl
zeros_first (suc n) (suc k) xs =
    let least : min (suc k) (suc n) ≡ suc (min k n) = omega arith in
    let rest : suc n - suc (min k n) ≡ n - min k n = omega arith in
    rw (least, rest) (ap (λ r. false ∷ r) (zeros_first n k xs))

drop_least : (k : ℕ) (xs : List Bool) → drop k xs ≡ drop (min k (length xs)) xs
drop_least zero xs = let none : min 0 (length xs) ≡ 0 = omega arith in rw none refl
drop_least (suc k) [] = let none : min (suc k) 0 ≡ 0 = omega arith in rw none refl
drop_least (suc k) (x ∷ xs) = let least : min (suc k) (suc (length xs)) ≡ suc (min k (length xs)) = omega arith in rw least (drop_least k xs)

-- a register that is shifted by an amount that is not below 0, where the count is the amount or the width
module _ (place : Span) (xs : List Bool) (z : ℤ) (count : ℕ) (some : int_lt z (pos 0) ≡ false) (is_count : count ≡ min (unsigned_abs z) (length xs)) where
  moved : (v : Option Value) (found : List Bool) → v ≡ Some (Register found) → length found ≡ length xs → constant_in_range place (t.Bits (length xs)) v ≡ Ok (register_of found)
  moved v found e long = ap (constant_in_range place (t.Bits (length xs))) e ∙ (λ i. Ok (record { type = t.Bits (sym long i); value = Register found }))

  pub shifted_left : constant_in_range place (t.Bits (length xs)) (apply op.ShiftLeft (t.Bits (length xs)) (Register xs) (Number z)) ≡ Ok (register_of (moved_left count xs))
  shifted_left = moved _ (moved_left count xs) value long
    where
      value : apply op.ShiftLeft (t.Bits (length xs)) (Register xs) (Number z) ≡ Some (Register (moved_left count xs))
      value =
          rw some
          (ap (λ (bits : List Bool). Some (Register bits))
          (bits_of-left xs (unsigned_abs z) ∙ zeros_first (length xs) (unsigned_abs z) xs ∙ ap (λ (k : ℕ). replicate k false ++ take (length xs - k) xs) (sym is_count)))

      long : length (moved_left count xs) ≡ length xs
      long = omega (arith, is_count, length-append (replicate count false) (take (length xs - count) xs), length-replicate count false, length-take (length xs - count) xs)

  pub shifted_right : constant_in_range place (t.Bits (length xs)) (apply op.ShiftRight (t.Bits (length xs)) (Register xs) (Number z)) ≡ Ok (register_of (moved_right count xs))
  shifted_right = moved _ (moved_right count xs) value long
    where
      value : apply op.ShiftRight (t.Bits (length xs)) (Register xs) (Number z) ≡ Some (Register (moved_right count xs))
      value =
          rw some
          (ap (λ (bits : List Bool). Some (Register bits))
          (bits_of-right xs (unsigned_abs z) ∙ ap (λ (rest : List Bool). rest ++ replicate (min (unsigned_abs z) (length xs)) false) (drop_least (unsigned_abs z) xs) ∙ ap (λ (k : ℕ). drop k xs ++ replicate k false) (sym is_count)))

      long : length (moved_right count xs) ≡ length xs
      long = omega (arith, is_count, length-append (drop count xs) (replicate count false), length-replicate count false, length-drop count xs)

-- ---- amounts

pub no_amount_below : (a : ℤ) → FitsSigned w128 a → int_lt (to_z w128 (of_z w128 a)) (pos 0) ≡ false → int_lt a (pos 0) ≡ false
no_amount_below a fits e = rw (to_z-of_z w128 a fits) at e

pub least_amount : (a : ℤ) (n : ℕ) → FitsSigned w128 a → n < 2 ^ 32 → int_lt a (pos 0) ≡ false → int_lt (to_z w128 (of_z w128 a)) (to_z w128 n) ≡ true → unsigned_abs a ≡ min (unsigned_abs a) n
least_amount a n fits small some e = of_small a n some (rw (to_z-of_z w128 a fits, to_z_pos w128 n (omega (arith, small))) at e)
  where
    of_small : (a : ℤ) (n : ℕ) → int_lt a (pos 0) ≡ false → int_lt a (pos n) ≡ true → unsigned_abs a ≡ min (unsigned_abs a) n
    of_small a n some e = grind (arith, ints)

pub least_size : (a : ℤ) (n : ℕ) → FitsSigned w128 a → n < 2 ^ 32 → int_lt a (pos 0) ≡ false → int_lt (to_z w128 (of_z w128 a)) (to_z w128 n) ≡ false → n ≡ min (unsigned_abs a) n
least_size a n fits small some e = of_large a n some (rw (to_z-of_z w128 a fits, to_z_pos w128 n (omega (arith, small))) at e)
  where
    of_large : (a : ℤ) (n : ℕ) → int_lt a (pos 0) ≡ false → int_lt a (pos n) ≡ false → n ≡ min (unsigned_abs a) n
    of_large a n some e = grind (arith, ints)

-- ---- which operator

pub right_only : (o : BinaryOp) → is_shift (group_of o) ≡ true → (o ≡ op.ShiftLeft → ⊥) → o ≡ op.ShiftRight
right_only op.ShiftLeft shift other = absurd (other refl)
right_only op.ShiftRight shift other = refl
right_only _ shift other = absurd cc

-- ---- the same answers

pub shift_answer : (result : Result Const Fault) (o : BinaryOp) (place : Span) (xs seen : List Bool) (n : ℕ) (z w : ℤ) → seen ≡ xs → length xs ≡ n → z ≡ w
    → Answers constant_of result (constant_in_range place (t.Bits (length seen)) (apply o (t.Bits (length seen)) (Register seen) (Number z)))
    → Answers constant_of result (constant_in_range place (t.Bits n) (apply o (t.Bits n) (Register xs) (Number w)))
shift_answer result o place xs seen n z w same count number h = rw (← count, ← same, ← number) h

pub pair_answer : (result : Result Const Fault) (o : BinaryOp) (place : Span) (xs ys first second : List Bool) (n : ℕ) → first ≡ xs → second ≡ ys → length xs ≡ n
    → Answers constant_of result (constant_in_range place (paired_type (group_of o) (t.Bits (length first))) (apply o (paired_type (group_of o) (t.Bits (length first))) (Register first) (Register second)))
    → Answers constant_of result (constant_in_range place (paired_type (group_of o) (t.Bits n)) (apply o (paired_type (group_of o) (t.Bits n)) (Register xs) (Register ys)))
pair_answer result o place xs ys first second n same other count h = rw (← count, ← same, ← other) h
