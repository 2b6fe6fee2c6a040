-- Values have the kinds of their expressions.
use Rattle.std.proofs.Common.{◌≡◌, ℕ, zero, suc, if◌then◌else◌, Bool, true, false, [], ◌∷◌, map, ℤ, pos, negsuc, Option, Some, None, refl, ap, ◌∙◌, nat_lt}
use Rattle.std.specs.Prelude.{slice_get}
use Rattle.qir_module.specs.declared.instruction.Opcode.{Opcode}
use Rattle.qir_module.specs.declared.instruction.Opcode.TheVariants.{Add, Sub, Mul, Sdiv, Srem, Udiv, Urem, Shl, Lshr, Ashr, And, Or, Xor, Eq, Ne, Slt, Sle, Sgt, Sge, Ult, Ule, Ugt, Uge}
use Rattle.qir_module.specs.Machine.{Value, Word, Holds, if_divisor}
use Rattle.core_ir.specs.declared.expression.CellKind.{CellKind}
use Rattle.core_ir.specs.declared.expression.CellKind.TheVariants.{Truth as TruthKind, Number as NumberKind}
use Rattle.core_ir.specs.Tree.{Cell, Truth, Number, Op, Widen, Narrow, Choose, Cut}
use Rattle.core_ir.specs.Run.{Cells, cell_value, value_of, op_on, value_or_zero, truth_in_value}
use Rattle.core_ir.specs.WellFormed.{is_bitwise, is_comparison, op_kind, widen_kind, narrow_kind, choose_kind, kind_of}
use Rattle.core_ir.specs.Laws.{value_kind, ValuesHaveKinds}

cell_kind : (cells : Cells) (c : ℕ) (kind : CellKind) → slice_get (map value_kind cells) c ≡ Some kind → value_kind (cell_value cells c) ≡ kind
cell_kind [] c kind is = cc
cell_kind (v ∷ cells) zero kind is = cc
cell_kind (v ∷ cells) (suc c) kind is = cell_kind cells c kind is

divided : (y : ℤ) (v : ℤ) → value_kind (value_or_zero (if_divisor y (Word v))) ≡ NumberKind
divided (pos zero) v = refl
divided (pos (suc n)) v = refl
divided (negsuc n) v = refl

shift_kind : (fits : Bool) (v : ℤ) → value_kind (value_or_zero (if fits then Some (Word v) else None)) ≡ NumberKind
shift_kind true v = refl
shift_kind false v = refl

words_kind : (op : Opcode) (x y : ℤ) → value_kind (value_or_zero (op_on op (Word x) (Word y))) ≡ (if is_comparison op then TruthKind else NumberKind)
words_kind Add x y = refl
words_kind Sub x y = refl
words_kind Mul x y = refl
words_kind Sdiv x y = divided y _
words_kind Srem x y = divided y _
words_kind Udiv x y = divided y _
words_kind Urem x y = divided y _
words_kind Shl x (pos n) = shift_kind (nat_lt n 64) _
words_kind Shl x (negsuc n) = refl
words_kind Lshr x (pos n) = shift_kind (nat_lt n 64) _
words_kind Lshr x (negsuc n) = refl
words_kind Ashr x (pos n) = shift_kind (nat_lt n 64) _
words_kind Ashr x (negsuc n) = refl
words_kind And x y = refl
words_kind Or x y = refl
words_kind Xor x y = refl
words_kind Eq x y = refl
words_kind Ne x y = refl
words_kind Slt x y = refl
words_kind Sle x y = refl
words_kind Sgt x y = refl
words_kind Sge x y = refl
words_kind Ult x y = refl
words_kind Ule x y = refl
words_kind Ugt x y = refl
words_kind Uge x y = refl

truths_kind : (op : Opcode) (a b : Bool) (kind : CellKind) → (if is_bitwise op then Some TruthKind else None) ≡ Some kind → value_kind (value_or_zero (op_on op (Holds a) (Holds b))) ≡ kind
truths_kind And a b kind is = cc
truths_kind Or a b kind is = cc
truths_kind Xor a b kind is = cc
truths_kind _ a b kind is = cc

op_result : (op : Opcode) (v w : Value) (kind : CellKind) → op_kind op (Some (value_kind v)) (Some (value_kind w)) ≡ Some kind → value_kind (value_or_zero (op_on op v w)) ≡ kind
op_result op (Word x) (Word y) kind is = words_kind op x y ∙ some_same is
  where
    some_same : {a b : CellKind} → Some a ≡ Some b → a ≡ b
    some_same e = cc
op_result op (Holds a) (Holds b) kind is = truths_kind op a b kind is
op_result op (Word x) (Holds b) kind is = cc
op_result op (Holds a) (Word y) kind is = cc

-- a kind that is given is that of the value, where each kind of the expression is
op_typed : (op : Opcode) (a b : Option CellKind) (v w : Value) (kind : CellKind) → ((k : CellKind) → a ≡ Some k → value_kind v ≡ k) → ((k : CellKind) → b ≡ Some k → value_kind w ≡ k)
    → op_kind op a b ≡ Some kind → value_kind (value_or_zero (op_on op v w)) ≡ kind
op_typed op None b v w kind left right is = cc
op_typed op (Some TruthKind) None v w kind left right is = cc
op_typed op (Some NumberKind) None v w kind left right is = cc
op_typed op (Some k) (Some j) v w kind left right is =
    op_result op v w kind (ap (λ x. op_kind op (Some x) (Some (value_kind w))) (left k refl) ∙ ap (λ x. op_kind op (Some k) (Some x)) (right j refl) ∙ is)

choose_typed : (t a b : Option CellKind) (test v w : Value) (kind : CellKind) → ((k : CellKind) → a ≡ Some k → value_kind v ≡ k) → ((k : CellKind) → b ≡ Some k → value_kind w ≡ k)
    → choose_kind t a b ≡ Some kind → value_kind (if truth_in_value test then v else w) ≡ kind
choose_typed (Some TruthKind) (Some TruthKind) (Some TruthKind) test v w kind left right is = either (truth_in_value test) (left TruthKind refl) (right TruthKind refl) is
  where
    either : (b : Bool) → value_kind v ≡ TruthKind → value_kind w ≡ TruthKind → Some TruthKind ≡ Some kind → value_kind (if b then v else w) ≡ kind
    either true l r e = cc
    either false l r e = cc
choose_typed (Some TruthKind) (Some NumberKind) (Some NumberKind) test v w kind left right is = either (truth_in_value test) (left NumberKind refl) (right NumberKind refl) is
  where
    either : (b : Bool) → value_kind v ≡ NumberKind → value_kind w ≡ NumberKind → Some NumberKind ≡ Some kind → value_kind (if b then v else w) ≡ kind
    either true l r e = cc
    either false l r e = cc
choose_typed _ _ _ test v w kind left right is = cc

widen_typed : (a : Option CellKind) (kind : CellKind) → widen_kind a ≡ Some kind → NumberKind ≡ kind
widen_typed (Some TruthKind) kind is = cc
widen_typed _ kind is = cc

narrow_typed : (a : Option CellKind) (kind : CellKind) → narrow_kind a ≡ Some kind → TruthKind ≡ kind
narrow_typed (Some NumberKind) kind is = cc
narrow_typed _ kind is = cc

pub values_have_kinds : ValuesHaveKinds
values_have_kinds (Cell c) cells kind is = cell_kind cells c kind is
values_have_kinds (Truth b) cells kind is = cc
values_have_kinds (Number z) cells kind is = cc
values_have_kinds (Op op a b) cells kind is =
    op_typed op (kind_of (map value_kind cells) a) (kind_of (map value_kind cells) b) (value_of a cells) (value_of b cells) kind
    (λ k e. values_have_kinds a cells k e) (λ k e. values_have_kinds b cells k e) is
values_have_kinds (Widen a) cells kind is = widen_typed (kind_of (map value_kind cells) a) kind is
values_have_kinds (Narrow a) cells kind is = narrow_typed (kind_of (map value_kind cells) a) kind is
values_have_kinds (Choose test a b) cells kind is =
    choose_typed (kind_of (map value_kind cells) test) (kind_of (map value_kind cells) a) (kind_of (map value_kind cells) b) (value_of test cells) (value_of a cells) (value_of b cells) kind
    (λ k e. values_have_kinds a cells k e) (λ k e. values_have_kinds b cells k e) is
values_have_kinds Cut cells kind is = cc
