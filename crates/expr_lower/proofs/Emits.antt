-- The code of expressions computes their values.
use Rattle.std.proofs.Common.{◌≡◌, ◌≢◌, ℕ, zero, suc, ◌+◌, ◌<◌, ◌≤◌, ◌⊎◌, inl, inr, nat_eq, if◌then◌else◌, Bool, true, false, not, ◌&&◌, ◌||◌, All, List, [], ◌∷◌, ◌++◌, length, map, get_or, ℤ, pos, negsuc, Option, Some, None, refl, sym, ap, ◌∙◌, subst, ⊎_elim, arith, append_assoc, length-append}
use Rattle.std.specs.Prelude.{slice_get, nat_le, IsSome, ◌≤ℤ◌, ◌%◌, ◌^◌, ◌-◌, FitsSigned}
use Rattle.std.specs.Int.{w64, cast_unsigned}
use Rattle.std.specs.List.{AllByRecursion}
use Rattle.std.proofs.lemmas.Bool.{false≢true, cases_lt, eq-eqb, ne_eqb, le-leb}
use Rattle.std.proofs.lemmas.Int.{ints}
use Rattle.std.proofs.lemmas.Option.{slice_get-get_or}
use Rattle.std.proofs.lemmas.List.{get_or_past}
use Rattle.std.proofs.lemmas.List.Elements.{All-get_or, All-cons, All-nil, recursion_from_All}
use Rattle.qir_module.specs.declared.instruction.Operand.{Operand}
use Rattle.qir_module.specs.declared.instruction.Operand.TheVariants.{Register, Fixed}
use Rattle.qir_module.specs.declared.instruction.Opcode.{Opcode}
use Rattle.qir_module.specs.declared.instruction.Opcode.TheVariants.{Add, Sub, Mul, Sdiv, Srem, Udiv, Urem, Shl, Lshr, Ashr, And, Or, Xor, Eq, Ne, Slt, Sle, Sgt, Sge, Ult, Ule, Ugt, Uge}
use Rattle.qir_module.specs.declared.instruction.Instr.{Instr}
use Rattle.qir_module.specs.declared.instruction.Instr.TheVariants.{Op}
use Rattle.qir_module.specs.Machine.{Word, Holds as HoldsTruth, State, with_register, value_in}
use Rattle.qir_module.specs.Module.{IsTruthOpcode}
use Rattle.qir_module.specs.Passes.{is_fixed_between, constants_fit}
use Rattle.core_ir.specs.declared.expression.CellKind.{CellKind}
use Rattle.core_ir.specs.declared.expression.CellKind.TheVariants.{Truth as TruthKind, Number as NumberKind}
use Rattle.core_ir.specs.declared.expression.CoreExpr.{CoreExpr}
use Rattle.core_ir.specs.declared.expression.CoreExpr.TheVariants.{Cell as CellNode, Truth as TruthNode, Number as NumberNode, Op as OpNode, Widen as WidenNode, Narrow as NarrowNode, Choose as ChooseNode}
use Rattle.core_ir.specs.Core.{Core}
use Rattle.core_ir.specs.Tree.{node_expr, expr_of}
use Rattle.core_ir.specs.Run.{Cells, value_of, value_at, op_on, value_or_zero, truth_in_value, word_in_value}
use Rattle.core_ir.specs.Size.{operands_of}
use Rattle.core_ir.specs.WellFormed.{is_bitwise, is_comparison, op_kind, widen_kind, narrow_kind, choose_kind, kind_of, kind_at, IsWellFormed, IsNumberWithin, IsSafeRight, IsSafeExpr, IsSafe}
use Rattle.cell_operands.specs.Operands.{is_number, operand_of, HoldsCells, IsBelow}
use Rattle.core_ir.specs.Laws.{NameEarlier, ExprsUnfold}
use Rattle.expr_lower.specs.declared.emit.Entry.{Entry}
use Rattle.expr_lower.specs.Emit.{nothing, place_in, found, is_truth_cell, entry_of, code_of, Emitted, emit}
use Rattle.expr_lower.specs.Lowered.{straight, HoldValues, IsHeldExpr, IsConstant, AreConstant, IsFixedFor, IsTyped, Gives, ReadsOnly, Behind, HasCell, AreTyped, AreCells, IsLowered}
use Rattle.expr_lower.specs.Order.{Among, Rises, IsOrder}
use Rattle.expr_lower.proofs.Collecting.{all_at, among_back, among_cases}
use Rattle.expr_lower.proofs.Registers.{SameBelow, register_kept, same_value, TypeIs, value_here, value_type, is_truth, is_word, SafeWord, gives_word, gives_truth, runs_words, runs_truths, runs_widen, runs_narrow, runs_choose, straight_append}
use Rattle.expr_lower.proofs.Counting.{emit_registers, code_few}

-- ---- the core

-- what is known of the core
pub record Known (core : Core) : Type 0 where
  pub fits : IsWellFormed core
  pub safe : IsSafe core.exprs
  pub words : AllByRecursion IsHeldExpr core.exprs
  pub unfolds : ExprsUnfold

earlier : (core : Core) → Known core → NameEarlier core.exprs (length core.exprs)
earlier core known k l = (known.fits.exprs k l).0

tree_at : (core : Core) (k : ℕ) (node : CoreExpr) → Known core → k < length core.exprs → slice_get core.exprs k ≡ Some node → expr_of core.exprs k ≡ node_expr (expr_of core.exprs) (Some node)
tree_at core k node known l is = known.unfolds core.exprs (length core.exprs) k (earlier core known) l ∙ ap (node_expr (expr_of core.exprs)) is

-- the kind of an expression, by its node
kind_is : (core : Core) (k : ℕ) (node : CoreExpr) → Known core → k < length core.exprs → slice_get core.exprs k ≡ Some node → kind_at core k ≡ kind_of core.cells (node_expr (expr_of core.exprs) (Some node))
kind_is core k node known l is = ap (kind_of core.cells) (tree_at core k node known l is)

node_has_kind : (core : Core) (k : ℕ) (node : CoreExpr) → Known core → k < length core.exprs → slice_get core.exprs k ≡ Some node → IsSome (kind_of core.cells (node_expr (expr_of core.exprs) (Some node)))
node_has_kind core k node known l is = subst IsSome (kind_is core k node known l is) (known.fits.exprs k l).1

value_is : (core : Core) (k : ℕ) (node : CoreExpr) (cells : Cells) → Known core → k < length core.exprs → slice_get core.exprs k ≡ Some node → value_at core.exprs k cells ≡ value_of (node_expr (expr_of core.exprs) (Some node)) cells
value_is core k node cells known l is = ap (λ e. value_of e cells) (tree_at core k node known l is)

-- ---- kinds

some_same : {A : Type 0} (a b : A) → Some a ≡ Some b → a ≡ b
some_same a b e = cc

abbrev OpKinds : Opcode → Option CellKind → Option CellKind → Type 0
OpKinds op a b = ((a ≡ Some NumberKind) × (b ≡ Some NumberKind)) ⊎ ((a ≡ Some TruthKind) × (b ≡ Some TruthKind) × (is_bitwise op ≡ true))

op_kinds : (op : Opcode) (a b : Option CellKind) → IsSome (op_kind op a b) → OpKinds op a b
op_kinds op (Some NumberKind) (Some NumberKind) some = inl (refl, refl)
op_kinds op (Some TruthKind) (Some TruthKind) some = inr (refl, refl, bits (is_bitwise op) refl some)
  where
    bits : (b : Bool) → is_bitwise op ≡ b → IsSome (if b then Some TruthKind else None) → is_bitwise op ≡ true
    bits true is some = is
    bits false is some = absurd (false≢true some)
op_kinds op None b some = absurd (false≢true some)
op_kinds op (Some NumberKind) None some = absurd (false≢true some)
op_kinds op (Some NumberKind) (Some TruthKind) some = absurd (false≢true some)
op_kinds op (Some TruthKind) None some = absurd (false≢true some)
op_kinds op (Some TruthKind) (Some NumberKind) some = absurd (false≢true some)

widen_from : (a : Option CellKind) → IsSome (widen_kind a) → a ≡ Some TruthKind
widen_from (Some TruthKind) some = refl
widen_from (Some NumberKind) some = absurd (false≢true some)
widen_from None some = absurd (false≢true some)

narrow_from : (a : Option CellKind) → IsSome (narrow_kind a) → a ≡ Some NumberKind
narrow_from (Some NumberKind) some = refl
narrow_from (Some TruthKind) some = absurd (false≢true some)
narrow_from None some = absurd (false≢true some)

-- both that are chosen from are of one kind, which is that of the choice
choose_from : (t a b : Option CellKind) → IsSome (choose_kind t a b) → (kind : CellKind) × (t ≡ Some TruthKind) × (a ≡ Some kind) × (b ≡ Some kind) × (choose_kind t a b ≡ Some kind)
choose_from (Some TruthKind) (Some TruthKind) (Some TruthKind) some = (TruthKind, refl, refl, refl, refl)
choose_from (Some TruthKind) (Some NumberKind) (Some NumberKind) some = (NumberKind, refl, refl, refl, refl)
choose_from None a b some = absurd (false≢true some)
choose_from (Some NumberKind) a b some = absurd (false≢true some)
choose_from (Some TruthKind) None b some = absurd (false≢true some)
choose_from (Some TruthKind) (Some TruthKind) None some = absurd (false≢true some)
choose_from (Some TruthKind) (Some TruthKind) (Some NumberKind) some = absurd (false≢true some)
choose_from (Some TruthKind) (Some NumberKind) None some = absurd (false≢true some)
choose_from (Some TruthKind) (Some NumberKind) (Some TruthKind) some = absurd (false≢true some)

-- ---- words of the core, and instructions on truth values

held_word : (exprs : List CoreExpr) (k : ℕ) (z : ℤ) → AllByRecursion IsHeldExpr exprs → slice_get exprs k ≡ Some (NumberNode z) → FitsSigned w64 z
held_word [] k z held is = cc
held_word (x ∷ exprs) zero z held is = subst IsHeldExpr (some_same_node x (NumberNode z) is) held.0
  where
    some_same_node : (a b : CoreExpr) → Some a ≡ Some b → a ≡ b
    some_same_node a b e = cc
held_word (x ∷ exprs) (suc k) z held is = held_word exprs k z held.1 is

truth_opcode : (op : Opcode) → is_bitwise op ≡ true → IsTruthOpcode true op
truth_opcode And is = tt
truth_opcode Or is = tt
truth_opcode Xor is = tt
truth_opcode Add is = absurd (false≢true is)
truth_opcode Sub is = absurd (false≢true is)
truth_opcode Mul is = absurd (false≢true is)
truth_opcode Sdiv is = absurd (false≢true is)
truth_opcode Srem is = absurd (false≢true is)
truth_opcode Udiv is = absurd (false≢true is)
truth_opcode Urem is = absurd (false≢true is)
truth_opcode Shl is = absurd (false≢true is)
truth_opcode Lshr is = absurd (false≢true is)
truth_opcode Ashr is = absurd (false≢true is)
truth_opcode Eq is = absurd (false≢true is)
truth_opcode Ne is = absurd (false≢true is)
truth_opcode Slt is = absurd (false≢true is)
truth_opcode Sle is = absurd (false≢true is)
truth_opcode Sgt is = absurd (false≢true is)
truth_opcode Sge is = absurd (false≢true is)
truth_opcode Ult is = absurd (false≢true is)
truth_opcode Ule is = absurd (false≢true is)
truth_opcode Ugt is = absurd (false≢true is)
truth_opcode Uge is = absurd (false≢true is)

fits_flag : (op : Opcode) (truth : Bool) (a b : Option CellKind) → ((k : CellKind) → a ≡ Some k → truth ≡ not (is_number k)) → OpKinds op a b → IsTruthOpcode truth op
fits_flag op truth a b flag (inl numbers) = subst (λ t. IsTruthOpcode t op) (sym (flag NumberKind numbers.0)) tt
fits_flag op truth a b flag (inr truths) = subst (λ t. IsTruthOpcode t op) (sym (flag TruthKind truths.0)) (truth_opcode op truths.2)

-- ---- what is known of the expressions that are done

pub record Facts (core : Core) (has : ℕ → Bool → Type 0) (next k : ℕ) (entry : Entry) : Type 0 where
  pub kind : (kind : CellKind) → kind_at core k ≡ Some kind → entry.truth ≡ not (is_number kind)
  pub below : IsBelow next entry.operand
  pub typed : IsTyped has entry.truth entry.operand
  pub constant : IsConstant (slice_get core.exprs k) entry.operand

-- of each in front
pub record Fine (core : Core) (has : ℕ → Bool → Type 0) (next : ℕ) (order front : List ℕ) (done : List Entry) : Type 0 where
  pub long : length done ≡ length front
  pub each : (k : ℕ) → Among k front → Facts core has next k (found order done k)

typed_more : (has more : ℕ → Bool → Type 0) (truth : Bool) (o : Operand) → ((r : ℕ) (t : Bool) → has r t → more r t) → IsTyped has truth o → IsTyped more truth o
typed_more has more truth (Register r) gains typed = gains r truth typed
typed_more has more truth (Fixed z) gains typed = typed

below_more : (low next : ℕ) (o : Operand) → low ≤ next → IsBelow low o → IsBelow next o
below_more low next (Register r) le b = omega (arith, le, b)
below_more low next (Fixed z) le b = tt

facts_more : (core : Core) (has more : ℕ → Bool → Type 0) (low next k : ℕ) (entry : Entry) → low ≤ next → ((r : ℕ) (t : Bool) → has r t → more r t) → Facts core has low k entry → Facts core more next k entry
facts_more core has more low next k entry le gains facts = record {
  kind = facts.kind;
  below = below_more low next entry.operand le facts.below;
  typed = typed_more has more entry.truth entry.operand gains facts.typed;
  constant = facts.constant;
}

behind_more : (has : ℕ → Bool → Type 0) (code : List Instr) (r : ℕ) (t : Bool) → has r t → Behind has code r t
behind_more has [] r t there = there
behind_more has (i ∷ is) r t there = behind_more (λ x u. has x u ⊎ Gives i x u) is r t (inl there)

behind_append : (has : ℕ → Bool → Type 0) (code more : List Instr) (r : ℕ) (t : Bool) → Behind (Behind has code) more r t → Behind has (code ++ more) r t
behind_append has [] more r t there = there
behind_append has (i ∷ is) more r t there = behind_append (λ x u. has x u ⊎ Gives i x u) is more r t there

reads_append : (has : ℕ → Bool → Type 0) (code more : List Instr) → ReadsOnly has code → ReadsOnly (Behind has code) more → ReadsOnly has (code ++ more)
reads_append has [] more first second = second
reads_append has (i ∷ is) more first second = (first.0, reads_append (λ x u. has x u ⊎ Gives i x u) is more first.1 second)

-- ---- places in the order

place_front : (k : ℕ) (front rest : List ℕ) → Among k front → place_in (front ++ rest) k < length front
place_front k [] rest among = absurd among
place_front k (x ∷ front) rest among =
    ⊎_elim (λ is. subst (λ b. (if b then 0 else suc (place_in (front ++ rest) k)) < suc (length front)) (sym (eq-eqb x k (sym is))) (omega arith))
    (λ behind. here (nat_eq x k) (place_front k front rest behind)) among
  where
    here : (b : Bool) → place_in (front ++ rest) k < length front → (if b then 0 else suc (place_in (front ++ rest) k)) < suc (length front)
    here true lt = omega arith
    here false lt = omega (arith, lt)

place_next : (k : ℕ) (front rest : List ℕ) → AllByRecursion (λ x. x < k) front → place_in (front ++ k ∷ rest) k ≡ length front
place_next k [] rest below = ap (λ b. if b then 0 else suc (place_in rest k)) (eq-eqb k k refl)
place_next k (x ∷ front) rest below =
    ap (λ b. if b then 0 else suc (place_in (front ++ k ∷ rest) k)) (ne_eqb x k (λ e. absurd (omega (arith, e, below.0)))) ∙ ap suc (place_next k front rest below.1)

get_kept : (done : List Entry) (e : Entry) (i : ℕ) → i < length done → get_or (done ++ e ∷ []) i nothing ≡ get_or done i nothing
get_kept [] e i l = absurd (omega (arith, l))
get_kept (d ∷ done) e zero l = refl
get_kept (d ∷ done) e (suc i) l = get_kept done e i (omega (arith, l))

get_new : (done : List Entry) (e : Entry) → get_or (done ++ e ∷ []) (length done) nothing ≡ e
get_new [] e = refl
get_new (d ∷ done) e = get_new done e

found_kept : (k j : ℕ) (front rest : List ℕ) (done : List Entry) (e : Entry) → length done ≡ length front → Among j front → found (front ++ k ∷ rest) (done ++ e ∷ []) j ≡ found (front ++ k ∷ rest) done j
found_kept k j front rest done e long among = get_kept done e (place_in (front ++ k ∷ rest) j) (omega (arith, long, place_front j front (k ∷ rest) among))

found_new : (k : ℕ) (front rest : List ℕ) (done : List Entry) (e : Entry) → length done ≡ length front → AllByRecursion (λ x. x < k) front → found (front ++ k ∷ rest) (done ++ e ∷ []) k ≡ e
found_new k front rest done e long below = ap (λ (i : ℕ). get_or (done ++ e ∷ []) i nothing) (place_next k front rest below ∙ sym long) ∙ get_new done e

-- in an order what is smaller stands in front
front_below : (k : ℕ) (front rest : List ℕ) → Rises (front ++ k ∷ rest) → AllByRecursion (λ x. x < k) front
front_below k [] rest rises = tt
front_below k (x ∷ front) rest rises = (all_at (λ y. x < y) (front ++ k ∷ rest) k rises.0 (among_back k front (k ∷ rest) (inl refl)), front_below k front rest rises.1)

rest_above : (k : ℕ) (front rest : List ℕ) → Rises (front ++ k ∷ rest) → AllByRecursion (λ y. k < y) rest
rest_above k [] rest rises = rises.0
rest_above k (x ∷ front) rest rises = rest_above k front rest rises.1

in_front : (k j : ℕ) (front rest : List ℕ) → Rises (front ++ k ∷ rest) → j < k → Among j (front ++ k ∷ rest) → Among j front
in_front k j front rest rises lt among =
    ⊎_elim (λ here. here) (λ behind. ⊎_elim (λ is. absurd (omega (arith, is, lt))) (λ later. absurd (omega (arith, lt, all_at (λ y. k < y) rest j (rest_above k front rest rises) later))) behind) (among_cases j front (k ∷ rest) among)

-- ---- one expression, as it is put down

-- the entries of the expressions that a node names
abbrev Named : (core : Core) → (ℕ → Bool → Type 0) → ℕ → (ℕ → Entry) → CoreExpr → Type 0
Named core has next memo node = (j : ℕ) → Among j (operands_of (Some node)) → Facts core has next j (memo j)

flag_of : (compares truth : Bool) (kind : CellKind) → truth ≡ false → Some (if compares then TruthKind else NumberKind) ≡ Some kind → (compares || truth) ≡ not (is_number kind)
flag_of true truth kind is e = ap (λ (k : CellKind). not (is_number k)) (some_same TruthKind kind e)
flag_of false truth kind is e = is ∙ ap (λ (k : CellKind). not (is_number k)) (some_same NumberKind kind e)

or_true : (a b : Bool) → b ≡ true → (a || b) ≡ true
or_true true b e = refl
or_true false b e = e

op_flag : (core : Core) (op : Opcode) (ka kb : Option CellKind) (truth : Bool) (kind : CellKind) → ((k : CellKind) → ka ≡ Some k → truth ≡ not (is_number k)) → OpKinds op ka kb → op_kind op ka kb ≡ Some kind → (is_comparison op || truth) ≡ not (is_number kind)
op_flag core op ka kb truth kind flag (inl numbers) is =
    flag_of (is_comparison op) truth kind (flag NumberKind numbers.0) (sym (ap (λ x. op_kind op x kb) numbers.0 ∙ ap (λ x. op_kind op (Some NumberKind) x) numbers.1) ∙ is)
op_flag core op ka kb truth kind flag (inr truths) is =
    let both : op_kind op ka kb ≡ Some TruthKind = ap (λ x. op_kind op x kb) truths.0 ∙ ap (λ x. op_kind op (Some TruthKind) x) truths.1 ∙ ap (λ b. if b then Some TruthKind else None) truths.2 in
    or_true (is_comparison op) truth (flag TruthKind truths.0) ∙ ap (λ (k : CellKind). not (is_number k)) (some_same TruthKind kind (sym both ∙ is))

-- a typed operand at a flag that is known
at_flag : (has : ℕ → Bool → Type 0) (truth known : Bool) (o : Operand) → truth ≡ known → IsTyped has truth o → IsTyped has known o
at_flag has truth known o is typed = subst (λ b. IsTyped has b o) is typed

cell_flag : (o : Option CellKind) (kind : CellKind) → o ≡ Some kind → is_truth_cell o ≡ not (is_number kind)
cell_flag o TruthKind is = ap is_truth_cell is
cell_flag o NumberKind is = ap is_truth_cell is

pub node_facts : (core : Core) (operands : List Operand) (has : ℕ → Bool → Type 0) (memo : ℕ → Entry) (low next k : ℕ) (node : CoreExpr) → Known core → k < length core.exprs → slice_get core.exprs k ≡ Some node
    → AreCells core.cells low operands → low ≤ next → ((r : ℕ) (t : Bool) → HasCell core.cells operands r t → has r t) → Named core has next memo node
    → Facts core (Behind has (code_of memo next node)) (next + length (code_of memo next node)) k (entry_of core.cells operands memo next node)
node_facts core operands has memo low next k (CellNode c) known l is cells le gains named =
    let some = node_has_kind core k (CellNode c) known l is in
    let kinds = kind_is core k (CellNode c) known l is in
    cell_case (slice_get core.cells c) refl some
  where
    cell_case : (o : Option CellKind) → slice_get core.cells c ≡ o → IsSome o → Facts core has (next + 0) k (record { operand = operand_of operands c; truth = is_truth_cell (slice_get core.cells c) })
    cell_case None e some = absurd (false≢true some)
    cell_case (Some t) e some =
        let flag : is_truth_cell (slice_get core.cells c) ≡ not (is_number t) = cell_flag (slice_get core.cells c) t e in
        record {
          kind = λ kind has_kind. flag ∙ ap (λ (j : CellKind). not (is_number j)) (some_same t kind (sym e ∙ sym (kind_is core k (CellNode c) known l is) ∙ has_kind));
          below = below_more low (next + 0) (operand_of operands c) (omega (arith, le)) (cell_below c);
          typed = subst (λ b. IsTyped has b (operand_of operands c)) (sym flag) (cell_typed (operand_of operands c) refl (cells.typed c t e));
          constant = subst (λ o. IsConstant o (operand_of operands c)) (sym is) tt;
        }
      where
        cell_below : (c : ℕ) → IsBelow low (operand_of operands c)
        cell_below c = ⊎_elim (λ lt. All-get_or (IsBelow low) operands c (Fixed (pos 0)) lt cells.below) (λ past. subst (IsBelow low) (sym (get_or_past operands c (Fixed (pos 0)) past)) tt) (cases_lt c (length operands))

        cell_typed : (o : Operand) → operand_of operands c ≡ o → IsTyped (λ r u. Unit {0}) (not (is_number t)) (operand_of operands c) → IsTyped has (not (is_number t)) (operand_of operands c)
        cell_typed (Register r) at typed = subst (IsTyped has (not (is_number t))) (sym at) (gains r (not (is_number t)) (c, t, e, at, refl))
        cell_typed (Fixed z) at typed = subst (IsTyped has (not (is_number t))) (sym at) (subst (IsTyped (λ r u. Unit {0}) (not (is_number t))) at typed)
node_facts core operands has memo low next k (TruthNode b) known l is cells le gains named = record {
  kind = λ kind has_kind. ap (λ (j : CellKind). not (is_number j)) (some_same TruthKind kind (sym (kind_is core k (TruthNode b) known l is) ∙ has_kind));
  below = tt;
  typed = bit b;
  constant = subst (λ o. IsConstant o (Fixed (if b then pos 1 else pos 0))) (sym is) (bit_constant b);
}
  where
    bit : (b : Bool) → IsFixedFor true (if b then pos 1 else pos 0)
    bit true = inr refl
    bit false = inl refl

    bit_constant : (b : Bool) → IsConstant (Some (TruthNode b)) (Fixed (if b then pos 1 else pos 0))
    bit_constant true = refl
    bit_constant false = refl
node_facts core operands has memo low next k (NumberNode z) known l is cells le gains named = record {
  kind = λ kind has_kind. ap (λ (j : CellKind). not (is_number j)) (some_same NumberKind kind (sym (kind_is core k (NumberNode z) known l is) ∙ has_kind));
  below = tt;
  typed = held_word core.exprs k z known.words is;
  constant = subst (λ o. IsConstant o (Fixed z)) (sym is) refl;
}
node_facts core operands has memo low next k (OpNode op a b) known l is cells le gains named =
    let some = node_has_kind core k (OpNode op a b) known l is in
    record {
      kind = λ kind has_kind. op_flag core op (kind_at core a) (kind_at core b) (memo a).truth kind (named a (inl refl)).kind (op_kinds op (kind_at core a) (kind_at core b) some) (sym (kind_is core k (OpNode op a b) known l is) ∙ has_kind);
      below = omega arith;
      typed = inr (refl, refl);
      constant = subst (λ o. IsConstant o (Register next)) (sym is) tt;
    }
node_facts core operands has memo low next k (WidenNode a) known l is cells le gains named =
    let from = widen_from (kind_at core a) (node_has_kind core k (WidenNode a) known l is) in
    record {
      kind = λ kind has_kind. ap (λ (j : CellKind). not (is_number j)) (some_same NumberKind kind (sym (kind_is core k (WidenNode a) known l is ∙ ap widen_kind from) ∙ has_kind));
      below = omega arith;
      typed = inr (refl, refl);
      constant = subst (λ o. IsConstant o (Register next)) (sym is) tt;
    }
node_facts core operands has memo low next k (NarrowNode a) known l is cells le gains named =
    let from = narrow_from (kind_at core a) (node_has_kind core k (NarrowNode a) known l is) in
    record {
      kind = λ kind has_kind. ap (λ (j : CellKind). not (is_number j)) (some_same TruthKind kind (sym (kind_is core k (NarrowNode a) known l is ∙ ap narrow_kind from) ∙ has_kind));
      below = omega arith;
      typed = inr (refl, refl);
      constant = subst (λ o. IsConstant o (Register next)) (sym is) tt;
    }
node_facts core operands has memo low next k (ChooseNode test a b) known l is cells le gains named =
    let from = choose_from (kind_at core test) (kind_at core a) (kind_at core b) (node_has_kind core k (ChooseNode test a b) known l is) in
    record {
      kind = λ kind has_kind. (named a (inr (inl refl))).kind from.0 from.2 ∙ ap (λ (j : CellKind). not (is_number j)) (some_same from.0 kind (sym (kind_is core k (ChooseNode test a b) known l is ∙ from.4) ∙ has_kind));
      below = omega arith;
      typed = inr (refl, refl);
      constant = subst (λ o. IsConstant o (Register next)) (sym is) tt;
    }

pub node_reads : (core : Core) (has : ℕ → Bool → Type 0) (memo : ℕ → Entry) (next k : ℕ) (node : CoreExpr) → Known core → k < length core.exprs → slice_get core.exprs k ≡ Some node → Named core has next memo node → ReadsOnly has (code_of memo next node)
node_reads core has memo next k (CellNode c) known l is named = tt
node_reads core has memo next k (TruthNode b) known l is named = tt
node_reads core has memo next k (NumberNode z) known l is named = tt
node_reads core has memo next k (OpNode op a b) known l is named =
    let same : (memo b).truth ≡ (memo a).truth = ⊎_elim
    (λ numbers. (named b (inr (inl refl))).kind NumberKind numbers.1 ∙ sym ((named a (inl refl)).kind NumberKind numbers.0))
    (λ truths. (named b (inr (inl refl))).kind TruthKind truths.1 ∙ sym ((named a (inl refl)).kind TruthKind truths.0))
    (op_kinds op (kind_at core a) (kind_at core b) (node_has_kind core k (OpNode op a b) known l is)) in
    let kinds = op_kinds op (kind_at core a) (kind_at core b) (node_has_kind core k (OpNode op a b) known l is) in
    ((fits_flag op (memo a).truth (kind_at core a) (kind_at core b) (named a (inl refl)).kind kinds, (named a (inl refl)).typed, at_flag has (memo b).truth (memo a).truth (memo b).operand same (named b (inr (inl refl))).typed), tt)
node_reads core has memo next k (WidenNode a) known l is named =
    let from = widen_from (kind_at core a) (node_has_kind core k (WidenNode a) known l is) in
    (at_flag has (memo a).truth true (memo a).operand ((named a (inl refl)).kind TruthKind from) (named a (inl refl)).typed, tt)
node_reads core has memo next k (NarrowNode a) known l is named =
    let from = narrow_from (kind_at core a) (node_has_kind core k (NarrowNode a) known l is) in
    (at_flag has (memo a).truth false (memo a).operand ((named a (inl refl)).kind NumberKind from) (named a (inl refl)).typed, tt)
node_reads core has memo next k (ChooseNode test a b) known l is named =
    let from = choose_from (kind_at core test) (kind_at core a) (kind_at core b) (node_has_kind core k (ChooseNode test a b) known l is) in
    let same : (memo b).truth ≡ (memo a).truth = (named b (inr (inr (inl refl)))).kind from.0 from.3 ∙ sym ((named a (inr (inl refl))).kind from.0 from.2) in (
      (
        at_flag has (memo test).truth true (memo test).operand ((named test (inl refl)).kind TruthKind from.1) (named test (inl refl)).typed,
        (named a (inr (inl refl))).typed,
        at_flag has (memo b).truth (memo a).truth (memo b).operand same (named b (inr (inr (inl refl)))).typed,
      ),
      tt,
    )

-- ---- divisors and amounts of shifts

abbrev pub AllFixed : List Instr → Type 0
AllFixed code = AllByRecursion (λ (i : Instr). constants_fit i ≡ true) code

fixed_append : (code more : List Instr) → AllFixed code → AllFixed more → AllFixed (code ++ more)
fixed_append [] more first second = second
fixed_append (i ∷ is) more first second = (first.0, fixed_append is more first.1 second)

both_true : (a b : Bool) → a ≡ true → b ≡ true → (a && b) ≡ true
both_true a b first second = ap (λ x. x && b) first ∙ second

between : (least greatest : ℕ) (z : ℤ) → (pos least ≤ℤ z) × (z ≤ℤ pos greatest) → is_fixed_between least greatest (Fixed z) ≡ true
between least greatest (pos n) within =
    let low : pos least ≤ℤ pos n = within.0 in
    let high : pos n ≤ℤ pos greatest = within.1 in
    both_true (nat_le least n) (nat_le n greatest) (le-leb least n (omega (arith, ints))) (le-leb n greatest (omega (arith, ints)))
between least greatest (negsuc n) within = let low : pos least ≤ℤ negsuc n = within.0 in absurd (omega (arith, ints))

fixed_right : (least greatest : ℕ) (right : Operand) (o : Option CoreExpr) → IsNumberWithin (pos least) (pos greatest) o → IsConstant o right → is_fixed_between least greatest right ≡ true
fixed_right least greatest right (Some (NumberNode z)) within constant = subst (λ (x : Operand). is_fixed_between least greatest x ≡ true) (sym constant) (between least greatest z within)
fixed_right least greatest right None within constant = absurd within
fixed_right least greatest right (Some (CellNode c)) within constant = absurd within
fixed_right least greatest right (Some (TruthNode t)) within constant = absurd within
fixed_right least greatest right (Some (OpNode op i j)) within constant = absurd within
fixed_right least greatest right (Some (WidenNode i)) within constant = absurd within
fixed_right least greatest right (Some (NarrowNode i)) within constant = absurd within
fixed_right least greatest right (Some (ChooseNode t i j)) within constant = absurd within

op_fixed : (o : Option CoreExpr) (r : ℕ) (op : Opcode) (truth : Bool) (left right : Operand) → IsSafeRight op o → IsConstant o right → constants_fit (Op r op truth left right) ≡ true
op_fixed o r Sdiv truth left right safe constant = ap (λ x. x && true) (fixed_right 1 (2 ^ 63 - 1) right o safe constant)
op_fixed o r Srem truth left right safe constant = ap (λ x. x && true) (fixed_right 1 (2 ^ 63 - 1) right o safe constant)
op_fixed o r Udiv truth left right safe constant = ap (λ x. x && true) (fixed_right 1 (2 ^ 63 - 1) right o safe constant)
op_fixed o r Urem truth left right safe constant = ap (λ x. x && true) (fixed_right 1 (2 ^ 63 - 1) right o safe constant)
op_fixed o r Shl truth left right safe constant = fixed_right 0 63 right o safe constant
op_fixed o r Lshr truth left right safe constant = fixed_right 0 63 right o safe constant
op_fixed o r Ashr truth left right safe constant = fixed_right 0 63 right o safe constant
op_fixed o r _ truth left right safe constant = refl

node_fixed : (core : Core) (has : ℕ → Bool → Type 0) (memo : ℕ → Entry) (next k : ℕ) (node : CoreExpr) → Known core → slice_get core.exprs k ≡ Some node → Named core has next memo node → AllFixed (code_of memo next node)
node_fixed core has memo next k (CellNode c) known is named = tt
node_fixed core has memo next k (TruthNode b) known is named = tt
node_fixed core has memo next k (NumberNode z) known is named = tt
node_fixed core has memo next k (OpNode op a b) known is named =
    (op_fixed (slice_get core.exprs b) next op (memo a).truth (memo a).operand (memo b).operand (subst (IsSafeExpr core.exprs) is (known.safe k)) (named b (inr (inl refl))).constant, tt)
node_fixed core has memo next k (WidenNode a) known is named = (refl, tt)
node_fixed core has memo next k (NarrowNode a) known is named = (refl, tt)
node_fixed core has memo next k (ChooseNode test a b) known is named = (refl, tt)

-- ---- one expression, as it runs

-- where the value of expression k is
abbrev pub HasValue : Core → Cells → State → ℕ → Entry → Type 0
HasValue core cells s k entry = value_in s entry.truth entry.operand ≡ Some (value_at core.exprs k cells)

pub record Stepped (core : Core) (cells : Cells) (labels : ℕ) (s : State) (next k : ℕ) (code : List Instr) (entry : Entry) : Type 0 where
  pub s' : State
  pub runs : straight labels code s ≡ Some s'
  pub same : SameBelow next s s'
  pub value : HasValue core cells s' k entry

-- a constant divisor or amount has its value
right_value : (core : Core) (cells : Cells) (b : ℕ) (low high y : ℤ) (o : Option CoreExpr) → Known core → b < length core.exprs → slice_get core.exprs b ≡ o → IsNumberWithin low high o → value_at core.exprs b cells ≡ Word y → (low ≤ℤ y) × (y ≤ℤ high)
right_value core cells b low high y (Some (NumberNode z)) known l is within value =
    let same : z ≡ y = cc (sym (value_is core b (NumberNode z) cells known l is) ∙ value) in
    subst (λ (x : ℤ). (low ≤ℤ x) × (x ≤ℤ high)) same within
right_value core cells b low high y None known l is within value = absurd within
right_value core cells b low high y (Some (CellNode c)) known l is within value = absurd within
right_value core cells b low high y (Some (TruthNode t)) known l is within value = absurd within
right_value core cells b low high y (Some (OpNode op i j)) known l is within value = absurd within
right_value core cells b low high y (Some (WidenNode i)) known l is within value = absurd within
right_value core cells b low high y (Some (NarrowNode i)) known l is within value = absurd within
right_value core cells b low high y (Some (ChooseNode t i j)) known l is within value = absurd within

safe_word : (core : Core) (cells : Cells) (b : ℕ) (op : Opcode) (y : ℤ) → Known core → b < length core.exprs → IsSafeRight op (slice_get core.exprs b) → value_at core.exprs b cells ≡ Word y → SafeWord op y
safe_word core cells b Sdiv y known l safe value = (right_value core cells b (pos 1) (pos (2 ^ 63 - 1)) y (slice_get core.exprs b) known l refl safe value).0
safe_word core cells b Srem y known l safe value = (right_value core cells b (pos 1) (pos (2 ^ 63 - 1)) y (slice_get core.exprs b) known l refl safe value).0
safe_word core cells b Udiv y known l safe value = (right_value core cells b (pos 1) (pos (2 ^ 63 - 1)) y (slice_get core.exprs b) known l refl safe value).0
safe_word core cells b Urem y known l safe value = (right_value core cells b (pos 1) (pos (2 ^ 63 - 1)) y (slice_get core.exprs b) known l refl safe value).0
safe_word core cells b Shl y known l safe value = right_value core cells b (pos 0) (pos 63) y (slice_get core.exprs b) known l refl safe value
safe_word core cells b Lshr y known l safe value = right_value core cells b (pos 0) (pos 63) y (slice_get core.exprs b) known l refl safe value
safe_word core cells b Ashr y known l safe value = right_value core cells b (pos 0) (pos 63) y (slice_get core.exprs b) known l refl safe value
safe_word core cells b _ y known l safe value = tt

-- the value of an operand of a known type
typed_value : (core : Core) (cells : Cells) (s : State) (k : ℕ) (entry : Entry) (truth : Bool) → entry.truth ≡ truth → HasValue core cells s k entry → TypeIs truth (value_at core.exprs k cells)
typed_value core cells s k entry truth is value = subst (λ b. TypeIs b (value_at core.exprs k cells)) is (value_type s entry.truth entry.operand (value_at core.exprs k cells) value)

or_false : (a : Bool) → (a || false) ≡ a
or_false true = refl
or_false false = refl

op_steps : (core : Core) (cells : Cells) (labels : ℕ) (s : State) (memo : ℕ → Entry) (next k a b : ℕ) (op : Opcode) → Known core → k < length core.exprs → slice_get core.exprs k ≡ Some (OpNode op a b) → b < length core.exprs
    → HasValue core cells s a (memo a) → HasValue core cells s b (memo b) → (memo b).truth ≡ (memo a).truth → ((memo a).truth ≡ false) ⊎ (((memo a).truth ≡ true) × (is_bitwise op ≡ true))
    → Stepped core cells labels s next k (Op next op (memo a).truth (memo a).operand (memo b).operand ∷ []) (record { operand = Register next; truth = is_comparison op || (memo a).truth })
op_steps core cells labels s memo next k a b op known l is lb va vb same (inl words) =
    let x = is_word (value_at core.exprs a cells) (typed_value core cells s a (memo a) false words va) in
    let y = is_word (value_at core.exprs b cells) (typed_value core cells s b (memo b) false (same ∙ words) vb) in
    let safe : IsSafeRight op (slice_get core.exprs b) = subst (IsSafeExpr core.exprs) is (known.safe k) in
    let g = gives_word op x.0 y.0 (safe_word core cells b op y.0 known lb safe y.1) in
    let value : value_at core.exprs k cells ≡ g.0 =
    value_is core k (OpNode op a b) cells known l is ∙ ap (λ v. value_or_zero (op_on op v (value_at core.exprs b cells))) x.1 ∙ ap (λ v. value_or_zero (op_on op (Word x.0) v)) y.1 ∙ ap value_or_zero g.1 in
    let right : value_in s (memo a).truth (memo b).operand ≡ Some (Word y.0) = ap (λ t. value_in s t (memo b).operand) (sym same) ∙ vb ∙ ap Some y.1 in
    let flag : (is_comparison op || (memo a).truth) ≡ is_comparison op = ap (λ t. is_comparison op || t) words ∙ or_false (is_comparison op) in
    record {
      s' = with_register s next g.0;
      runs = runs_words labels s next op (memo a).truth (memo a).operand (memo b).operand x.0 y.0 g.0 words (va ∙ ap Some x.1) right g.1;
      same = register_kept s next g.0;
      value = ap (λ t. value_in (with_register s next g.0) t (Register next)) flag ∙ value_here s next g.0 (is_comparison op) g.2 ∙ ap Some (sym value);
    }
op_steps core cells labels s memo next k a b op known l is lb va vb same (inr truths) =
    let x = is_truth (value_at core.exprs a cells) (typed_value core cells s a (memo a) true truths.0 va) in
    let y = is_truth (value_at core.exprs b cells) (typed_value core cells s b (memo b) true (same ∙ truths.0) vb) in
    let g = gives_truth op x.0 y.0 truths.1 in
    let value : value_at core.exprs k cells ≡ HoldsTruth g.0 =
    value_is core k (OpNode op a b) cells known l is ∙ ap (λ v. value_or_zero (op_on op v (value_at core.exprs b cells))) x.1 ∙ ap (λ v. value_or_zero (op_on op (HoldsTruth x.0) v)) y.1 ∙ ap value_or_zero g.1 in
    let right : value_in s (memo a).truth (memo b).operand ≡ Some (HoldsTruth y.0) = ap (λ t. value_in s t (memo b).operand) (sym same) ∙ vb ∙ ap Some y.1 in
    let flag : (is_comparison op || (memo a).truth) ≡ true = or_true (is_comparison op) (memo a).truth truths.0 in
    record {
      s' = with_register s next (HoldsTruth g.0);
      runs = runs_truths labels s next op (memo a).truth (memo a).operand (memo b).operand x.0 y.0 g.0 truths.0 (va ∙ ap Some x.1) right g.1;
      same = register_kept s next (HoldsTruth g.0);
      value = ap (λ t. value_in (with_register s next (HoldsTruth g.0)) t (Register next)) flag ∙ value_here s next (HoldsTruth g.0) true tt ∙ ap Some (sym value);
    }

node_steps : (core : Core) (operands : List Operand) (cells : Cells) (labels : ℕ) (s : State) (has : ℕ → Bool → Type 0) (memo : ℕ → Entry) (next k : ℕ) (node : CoreExpr) → Known core → k < length core.exprs → slice_get core.exprs k ≡ Some node
    → HoldsCells s core.cells operands cells → Named core has next memo node → ((j : ℕ) → Among j (operands_of (Some node)) → HasValue core cells s j (memo j))
    → Stepped core cells labels s next k (code_of memo next node) (entry_of core.cells operands memo next node)
node_steps core operands cells labels s has memo next k (CellNode c) known l is holds named values =
    record { s' = s; runs = refl; same = λ r lt. refl; value = cell_case (slice_get core.cells c) refl (node_has_kind core k (CellNode c) known l is) }
  where
    cell_case : (o : Option CellKind) → slice_get core.cells c ≡ o → IsSome o → value_in s (is_truth_cell (slice_get core.cells c)) (operand_of operands c) ≡ Some (value_at core.exprs k cells)
    cell_case None e some = absurd (false≢true some)
    cell_case (Some t) e some =
        ap (λ b. value_in s b (operand_of operands c)) (cell_flag (slice_get core.cells c) t e) ∙ holds.each c t e ∙ ap Some (sym (value_is core k (CellNode c) cells known l is))
node_steps core operands cells labels s has memo next k (TruthNode b) known l is holds named values =
    record { s' = s; runs = refl; same = λ r lt. refl; value = bit b ∙ ap Some (sym (value_is core k (TruthNode b) cells known l is)) }
  where
    bit : (b : Bool) → value_in s true (Fixed (if b then pos 1 else pos 0)) ≡ Some (HoldsTruth b)
    bit true = refl
    bit false = refl
node_steps core operands cells labels s has memo next k (NumberNode z) known l is holds named values =
    record { s' = s; runs = refl; same = λ r lt. refl; value = ap Some (sym (value_is core k (NumberNode z) cells known l is)) }
node_steps core operands cells labels s has memo next k (OpNode op a b) known l is holds named values =
    op_steps core cells labels s memo next k a b op known l is right_there (values a (inl refl)) (values b (inr (inl refl))) same flags
  where
    named_all : AllByRecursion (λ j. j < k) (operands_of (Some (OpNode op a b)))
    named_all = subst (λ o. AllByRecursion (λ j. j < k) (operands_of o)) is (earlier core known k l)

    right_there : b < length core.exprs
    right_there = omega (arith, named_all.1.0, l)

    kinds : OpKinds op (kind_at core a) (kind_at core b)
    kinds = op_kinds op (kind_at core a) (kind_at core b) (node_has_kind core k (OpNode op a b) known l is)

    same : (memo b).truth ≡ (memo a).truth
    same = ⊎_elim
        (λ numbers. (named b (inr (inl refl))).kind NumberKind numbers.1 ∙ sym ((named a (inl refl)).kind NumberKind numbers.0))
        (λ truths. (named b (inr (inl refl))).kind TruthKind truths.1 ∙ sym ((named a (inl refl)).kind TruthKind truths.0)) kinds

    flags : ((memo a).truth ≡ false) ⊎ (((memo a).truth ≡ true) × (is_bitwise op ≡ true))
    flags = ⊎_elim (λ numbers. inl ((named a (inl refl)).kind NumberKind numbers.0)) (λ truths. inr ((named a (inl refl)).kind TruthKind truths.0, truths.2)) kinds
node_steps core operands cells labels s has memo next k (WidenNode a) known l is holds named values =
    let from = widen_from (kind_at core a) (node_has_kind core k (WidenNode a) known l is) in
    let flag : (memo a).truth ≡ true = (named a (inl refl)).kind TruthKind from in
    let x = is_truth (value_at core.exprs a cells) (typed_value core cells s a (memo a) true flag (values a (inl refl))) in
    let v = Word (if x.0 then pos 1 else pos 0) in
    let value : value_at core.exprs k cells ≡ v = value_is core k (WidenNode a) cells known l is ∙ ap (λ y. Word (if truth_in_value y then pos 1 else pos 0)) x.1 in
    record {
      s' = with_register s next v;
      runs = runs_widen labels s next (memo a).operand x.0 (ap (λ t. value_in s t (memo a).operand) (sym flag) ∙ values a (inl refl) ∙ ap Some x.1);
      same = register_kept s next v;
      value = value_here s next v false tt ∙ ap Some (sym value);
    }
node_steps core operands cells labels s has memo next k (NarrowNode a) known l is holds named values =
    let from = narrow_from (kind_at core a) (node_has_kind core k (NarrowNode a) known l is) in
    let flag : (memo a).truth ≡ false = (named a (inl refl)).kind NumberKind from in
    let x = is_word (value_at core.exprs a cells) (typed_value core cells s a (memo a) false flag (values a (inl refl))) in
    let v = HoldsTruth (nat_eq (cast_unsigned w64 x.0 % 2) 1) in
    let value : value_at core.exprs k cells ≡ v = value_is core k (NarrowNode a) cells known l is ∙ ap (λ y. HoldsTruth (nat_eq (cast_unsigned w64 (word_in_value y) % 2) 1)) x.1 in
    record {
      s' = with_register s next v;
      runs = runs_narrow labels s next (memo a).operand x.0 (ap (λ t. value_in s t (memo a).operand) (sym flag) ∙ values a (inl refl) ∙ ap Some x.1);
      same = register_kept s next v;
      value = value_here s next v true tt ∙ ap Some (sym value);
    }
node_steps core operands cells labels s has memo next k (ChooseNode test a b) known l is holds named values =
    let from = choose_from (kind_at core test) (kind_at core a) (kind_at core b) (node_has_kind core k (ChooseNode test a b) known l is) in
    let flag : (memo test).truth ≡ true = (named test (inl refl)).kind TruthKind from.1 in
    let same : (memo b).truth ≡ (memo a).truth = (named b (inr (inr (inl refl)))).kind from.0 from.3 ∙ sym ((named a (inr (inl refl))).kind from.0 from.2) in
    let t = is_truth (value_at core.exprs test cells) (typed_value core cells s test (memo test) true flag (values test (inl refl))) in
    let v = value_at core.exprs a cells in
    let w = value_at core.exprs b cells in
    let chosen = if t.0 then v else w in
    let value : value_at core.exprs k cells ≡ chosen = value_is core k (ChooseNode test a b) cells known l is ∙ ap (λ y. if truth_in_value y then v else w) t.1 in
    let right : value_in s (memo a).truth (memo b).operand ≡ Some w = ap (λ u. value_in s u (memo b).operand) (sym same) ∙ values b (inr (inr (inl refl))) in
    record {
      s' = with_register s next chosen;
      runs = runs_choose labels s next (memo a).truth (memo test).operand (memo a).operand (memo b).operand t.0 v w (ap (λ u. value_in s u (memo test).operand) (sym flag) ∙ values test (inl refl) ∙ ap Some t.1) (values a (inr (inl refl))) right;
      same = register_kept s next chosen;
      value = value_here s next chosen (memo a).truth (either t.0 (value_type s (memo a).truth (memo a).operand v (values a (inr (inl refl)))) (value_type s (memo a).truth (memo b).operand w right)) ∙ ap Some (sym value);
    }
  where
    either : (c : Bool) → TypeIs (memo a).truth (value_at core.exprs a cells) → TypeIs (memo a).truth (value_at core.exprs b cells) → TypeIs (memo a).truth (if c then value_at core.exprs a cells else value_at core.exprs b cells)
    either true first second = first
    either false first second = second

-- ---- all of them

pub append_nil : (xs : List ℕ) → xs ++ [] ≡ xs
append_nil [] = refl
append_nil (x ∷ xs) = ap (λ ys. x ∷ ys) (append_nil xs)

pub next_front : (order front rest : List ℕ) (k : ℕ) → order ≡ front ++ k ∷ rest → order ≡ (front ++ k ∷ []) ++ rest
next_front order front rest k is = is ∙ sym (append_assoc front (k ∷ []) rest)

pub kept_in : (order front rest : List ℕ) (done : List Entry) (e : Entry) (k j : ℕ) → order ≡ front ++ k ∷ rest → length done ≡ length front → Among j front → found order (done ++ e ∷ []) j ≡ found order done j
kept_in order front rest done e k j is long among = subst (λ (o : List ℕ). found o (done ++ e ∷ []) j ≡ found o done j) (sym is) (found_kept k j front rest done e long among)

pub new_in : (order front rest : List ℕ) (done : List Entry) (e : Entry) (k : ℕ) → order ≡ front ++ k ∷ rest → Rises order → length done ≡ length front → found order (done ++ e ∷ []) k ≡ e
new_in order front rest done e k is rises long =
    subst (λ (o : List ℕ). found o (done ++ e ∷ []) k ≡ e) (sym is) (found_new k front rest done e long (front_below k front rest (subst Rises is rises)))

pub among_here : (order front rest : List ℕ) (k : ℕ) → order ≡ front ++ k ∷ rest → Among k order
among_here order front rest k is = subst (Among k) (sym is) (among_back k front (k ∷ rest) (inl refl))

-- the expressions that the next one names are done
named_front : (core : Core) (roots order front rest : List ℕ) (k j : ℕ) (node : CoreExpr) → Known core → IsOrder core.exprs roots order → order ≡ front ++ k ∷ rest → k < length core.exprs → slice_get core.exprs k ≡ Some node
    → Among j (operands_of (Some node)) → Among j front
named_front core roots order front rest k j node known is split l found_node named =
    let lower : j < k = all_at (λ i. i < k) (operands_of (Some node)) j (subst (λ o. AllByRecursion (λ i. i < k) (operands_of o)) found_node (earlier core known k l)) named in
    let there : Among j order = all_at (λ i. Among i order) (operands_of (Some node)) j (subst (λ o. AllByRecursion (λ i. Among i order) (operands_of o)) found_node (is.closed k (among_here order front rest k split))) named in
    in_front k j front rest (subst Rises split is.rises) lower (subst (Among j) split there)

pub record Emits (core : Core) (has : ℕ → Bool → Type 0) (next : ℕ) (order : List ℕ) (done : List Entry) (code : List Instr) : Type 0 where
  pub each : (k : ℕ) → Among k order → Facts core (Behind has code) (next + length code) k (found order done k)
  pub reads : ReadsOnly has code
  pub fixed : AllFixed code

fine_next : (core : Core) (roots : List ℕ) (operands : List Operand) (has : ℕ → Bool → Type 0) (low next : ℕ) (order front rest : List ℕ) (done : List Entry) (k : ℕ) → Known core → AreCells core.cells low operands → low ≤ next
    → ((r : ℕ) (t : Bool) → HasCell core.cells operands r t → has r t) → IsOrder core.exprs roots order → order ≡ front ++ k ∷ rest → k < length core.exprs → Fine core has next order front done
    → Fine core (Behind has (code_of (found order done) next (get_or core.exprs k (TruthNode false)))) (next + length (code_of (found order done) next (get_or core.exprs k (TruthNode false)))) order (front ++ k ∷ [])
    (done ++ entry_of core.cells operands (found order done) next (get_or core.exprs k (TruthNode false)) ∷ [])
fine_next core roots operands has low next order front rest done k known cells le gains is split l fine = record {
  long = length-append done (entry_of core.cells operands (found order done) next (get_or core.exprs k (TruthNode false)) ∷ []) ∙ ap (λ (n : ℕ). n + 1) fine.long ∙ sym (length-append front (k ∷ []));
  each = λ j among. ⊎_elim (λ early. old j early) (λ last. ⊎_elim (λ same. new j same) (λ none. absurd none) last) (among_cases j front (k ∷ []) among);
}
  where
    named : (j : ℕ) → Among j (operands_of (Some (get_or core.exprs k (TruthNode false)))) → Facts core has next j (found order done j)
    named j names = fine.each j (named_front core roots order front rest k j (get_or core.exprs k (TruthNode false)) known is split l (slice_get-get_or core.exprs k (TruthNode false) l) names)

    old : (j : ℕ) → Among j front → Facts core (Behind has (code_of (found order done) next (get_or core.exprs k (TruthNode false)))) (next + length (code_of (found order done) next (get_or core.exprs k (TruthNode false)))) j (found order (done ++ entry_of core.cells operands (found order done) next (get_or core.exprs k (TruthNode false)) ∷ []) j)
    old j early =
        subst (λ (x : Entry). Facts core (Behind has (code_of (found order done) next (get_or core.exprs k (TruthNode false)))) (next + length (code_of (found order done) next (get_or core.exprs k (TruthNode false)))) j x)
        (sym (kept_in order front rest done (entry_of core.cells operands (found order done) next (get_or core.exprs k (TruthNode false))) k j split fine.long early))
        (facts_more core has (Behind has (code_of (found order done) next (get_or core.exprs k (TruthNode false)))) next (next + length (code_of (found order done) next (get_or core.exprs k (TruthNode false)))) j (found order done j) (omega arith)
        (λ r t h. behind_more has (code_of (found order done) next (get_or core.exprs k (TruthNode false))) r t h) (fine.each j early))

    new : (j : ℕ) → j ≡ k → Facts core (Behind has (code_of (found order done) next (get_or core.exprs k (TruthNode false)))) (next + length (code_of (found order done) next (get_or core.exprs k (TruthNode false)))) j (found order (done ++ entry_of core.cells operands (found order done) next (get_or core.exprs k (TruthNode false)) ∷ []) j)
    new j same =
        subst (λ (i : ℕ). Facts core (Behind has (code_of (found order done) next (get_or core.exprs k (TruthNode false)))) (next + length (code_of (found order done) next (get_or core.exprs k (TruthNode false)))) i (found order (done ++ entry_of core.cells operands (found order done) next (get_or core.exprs k (TruthNode false)) ∷ []) i)) (sym same)
        (subst (λ (x : Entry). Facts core (Behind has (code_of (found order done) next (get_or core.exprs k (TruthNode false)))) (next + length (code_of (found order done) next (get_or core.exprs k (TruthNode false)))) k x)
        (sym (new_in order front rest done (entry_of core.cells operands (found order done) next (get_or core.exprs k (TruthNode false))) k split is.rises fine.long))
        (node_facts core operands has (found order done) low next k (get_or core.exprs k (TruthNode false)) known l (slice_get-get_or core.exprs k (TruthNode false) l) cells le gains named))

within_at : (core : Core) (roots order front rest : List ℕ) (k : ℕ) → IsOrder core.exprs roots order → order ≡ front ++ k ∷ rest → k < length core.exprs
within_at core roots order front rest k is split = all_at (λ i. i < length core.exprs) order k is.within (among_here order front rest k split)

emit_fine : (core : Core) (roots : List ℕ) (operands : List Operand) (has : ℕ → Bool → Type 0) (low next : ℕ) (order front rest : List ℕ) (done : List Entry) → Known core → AreCells core.cells low operands → low ≤ next
    → ((r : ℕ) (t : Bool) → HasCell core.cells operands r t → has r t) → IsOrder core.exprs roots order → order ≡ front ++ rest → Fine core has next order front done
    → Emits core has next order (emit core.exprs core.cells operands order rest done next).done (emit core.exprs core.cells operands order rest done next).code
emit_fine core roots operands has low next order front [] done known cells le gains is split fine = record {
  each = λ k among. facts_more core has has next (next + 0) k (found order done k) (omega arith) (λ r t h. h) (fine.each k (subst (Among k) (split ∙ append_nil front) among));
  reads = tt;
  fixed = tt;
}
emit_fine core roots operands has low next order front (k ∷ rest) done known cells le gains is split fine =
    let node = get_or core.exprs k (TruthNode false) in
    let l = within_at core roots order front rest k is split in
    let there = slice_get-get_or core.exprs k (TruthNode false) l in
    let code = code_of (found order done) next node in
    let entry = entry_of core.cells operands (found order done) next node in
    let more = emit core.exprs core.cells operands order rest (done ++ entry ∷ []) (next + length code) in
    let behind = emit_fine core roots operands (Behind has code) low (next + length code) order (front ++ k ∷ []) rest (done ++ entry ∷ []) known cells (omega (arith, le)) (λ r t h. behind_more has code r t (gains r t h)) is
    (next_front order front rest k split) (fine_next core roots operands has low next order front rest done k known cells le gains is split l fine) in
    record {
      each = λ j among. facts_more core (Behind (Behind has code) more.code) (Behind has (code ++ more.code)) ((next + length code) + length more.code) (next + length (code ++ more.code)) j (found order more.done j)
          (omega (arith, length-append code more.code)) (λ r t h. behind_append has code more.code r t h) (behind.each j among);
      reads = reads_append has code more.code
          (node_reads core has (found order done) next k node known l there (λ j names. fine.each j (named_front core roots order front rest k j node known is split l there names))) behind.reads;
      fixed = fixed_append code more.code
          (node_fixed core has (found order done) next k node known there (λ j names. fine.each j (named_front core roots order front rest k j node known is split l there names))) behind.fixed;
    }

-- ---- all of them, as they run

holds_same : (s t : State) (kinds : List CellKind) (operands : List Operand) (cells : Cells) (low next : ℕ) → low ≤ next → AreCells kinds low operands → SameBelow next s t → HoldsCells s kinds operands cells → HoldsCells t kinds operands cells
holds_same s t kinds operands cells low next le are same holds = record {
  each = λ c kind is. same_value next s t (not (is_number kind)) (operand_of operands c) same (below_more low next (operand_of operands c) le (cell_below c)) ∙ holds.each c kind is;
}
  where
    cell_below : (c : ℕ) → IsBelow low (operand_of operands c)
    cell_below c = ⊎_elim (λ lt. All-get_or (IsBelow low) operands c (Fixed (pos 0)) lt are.below) (λ past. subst (IsBelow low) (sym (get_or_past operands c (Fixed (pos 0)) past)) tt) (cases_lt c (length operands))

record Ran (core : Core) (cells : Cells) (labels : ℕ) (s : State) (next : ℕ) (order : List ℕ) (done : List Entry) (code : List Instr) : Type 0 where
  s' : State
  runs : straight labels code s ≡ Some s'
  same : SameBelow next s s'
  values : (k : ℕ) → Among k order → HasValue core cells s' k (found order done k)

emit_runs : (core : Core) (roots : List ℕ) (operands : List Operand) (cells : Cells) (labels : ℕ) (s : State) (has : ℕ → Bool → Type 0) (low next : ℕ) (order front rest : List ℕ) (done : List Entry) → Known core → AreCells core.cells low operands → low ≤ next
    → ((r : ℕ) (t : Bool) → HasCell core.cells operands r t → has r t) → IsOrder core.exprs roots order → order ≡ front ++ rest → Fine core has next order front done
    → HoldsCells s core.cells operands cells → ((k : ℕ) → Among k front → HasValue core cells s k (found order done k))
    → Ran core cells labels s next order (emit core.exprs core.cells operands order rest done next).done (emit core.exprs core.cells operands order rest done next).code
emit_runs core roots operands cells labels s has low next order front [] done known are le gains is split fine holds values = record {
  s' = s;
  runs = refl;
  same = λ r lt. refl;
  values = λ k among. values k (subst (Among k) (split ∙ append_nil front) among);
}
emit_runs core roots operands cells labels s has low next order front (k ∷ rest) done known are le gains is split fine holds values =
    let node = get_or core.exprs k (TruthNode false) in
    let l = within_at core roots order front rest k is split in
    let there = slice_get-get_or core.exprs k (TruthNode false) l in
    let code = code_of (found order done) next node in
    let entry = entry_of core.cells operands (found order done) next node in
    let more = emit core.exprs core.cells operands order rest (done ++ entry ∷ []) (next + length code) in
    let in_done : (j : ℕ) → Among j (operands_of (Some node)) → Among j front = λ j names. named_front core roots order front rest k j node known is split l there names in
    let step = node_steps core operands cells labels s has (found order done) next k node known l there holds (λ j names. fine.each j (in_done j names)) (λ j names. values j (in_done j names)) in
    let behind = emit_runs core roots operands cells labels step.s' (Behind has code) low (next + length code) order (front ++ k ∷ []) rest (done ++ entry ∷ []) known are (omega (arith, le)) (λ r t h. behind_more has code r t (gains r t h)) is
    (next_front order front rest k split) (fine_next core roots operands has low next order front rest done k known are le gains is split l fine)
    (holds_same s step.s' core.cells operands cells low next le are step.same holds)
    (λ j among. ⊎_elim
    (λ early. subst (HasValue core cells step.s' j) (sym (kept_in order front rest done entry k j split fine.long early))
    (same_value next s step.s' (found order done j).truth (found order done j).operand step.same (fine.each j early).below ∙ values j early))
    (λ last. ⊎_elim (λ same. subst (λ (i : ℕ). HasValue core cells step.s' i (found order (done ++ entry ∷ []) i)) (sym same)
    (subst (HasValue core cells step.s' k) (sym (new_in order front rest done entry k split is.rises fine.long)) step.value))
    (λ none. absurd none) last)
    (among_cases j front (k ∷ []) among)) in
    record {
      s' = behind.s';
      runs = straight_append labels code more.code s step.s' step.runs ∙ behind.runs;
      same = λ r lt. behind.same r (omega (arith, lt)) ∙ step.same r lt;
      values = behind.values;
    }

-- ---- the whole

start_fine : (core : Core) (has : ℕ → Bool → Type 0) (next : ℕ) (order : List ℕ) → Fine core has next order [] []
start_fine core has next order = record { long = refl; each = λ k among. absurd among }

values_held : (core : Core) (has : ℕ → Bool → Type 0) (cells : Cells) (s : State) (next : ℕ) (order : List ℕ) (done : List Entry) (exprs : List ℕ) → AllByRecursion (λ e. Among e order) exprs
    → ((k : ℕ) → Among k order → Facts core has next k (found order done k)) → ((k : ℕ) → Among k order → HasValue core cells s k (found order done k))
    → HoldValues s core cells exprs (map (λ (e : ℕ). (found order done e).operand) exprs)
values_held core has cells s next order done [] among facts values = tt
values_held core has cells s next order done (e ∷ exprs) among facts values =
    ((λ kind is. ap (λ t. value_in s t (found order done e).operand) (sym ((facts e among.0).kind kind is)) ∙ values e among.0), values_held core has cells s next order done exprs among.1 facts values)

constants_kept : (core : Core) (has : ℕ → Bool → Type 0) (next : ℕ) (order : List ℕ) (done : List Entry) (exprs : List ℕ) → AllByRecursion (λ e. Among e order) exprs
    → ((k : ℕ) → Among k order → Facts core has next k (found order done k)) → AreConstant core.exprs exprs (map (λ (e : ℕ). (found order done e).operand) exprs)
constants_kept core has next order done [] among facts = tt
constants_kept core has next order done (e ∷ exprs) among facts = ((facts e among.0).constant, constants_kept core has next order done exprs among.1 facts)

types_kept : (core : Core) (has : ℕ → Bool → Type 0) (next : ℕ) (order : List ℕ) (done : List Entry) (exprs : List ℕ) → AllByRecursion (λ e. Among e order) exprs
    → ((k : ℕ) → Among k order → Facts core has next k (found order done k)) → AreTyped has core exprs (map (λ (e : ℕ). (found order done e).operand) exprs)
types_kept core has next order done [] among facts = tt
types_kept core has next order done (e ∷ exprs) among facts =
    ((λ kind is. at_flag has (found order done e).truth (not (is_number kind)) (found order done e).operand ((facts e among.0).kind kind is) (facts e among.0).typed), types_kept core has next order done exprs among.1 facts)

all_below : (core : Core) (has : ℕ → Bool → Type 0) (next : ℕ) (order : List ℕ) (done : List Entry) (exprs : List ℕ) → AllByRecursion (λ e. Among e order) exprs
    → ((k : ℕ) → Among k order → Facts core has next k (found order done k)) → All (IsBelow next) (map (λ (e : ℕ). (found order done e).operand) exprs)
all_below core has next order done [] among facts = All-nil (IsBelow next)
all_below core has next order done (e ∷ exprs) among facts =
    All-cons (IsBelow next) (found order done e).operand (map (λ (i : ℕ). (found order done i).operand) exprs) (facts e among.0).below (all_below core has next order done exprs among.1 facts)

pub lowered : (core : Core) (roots order : List ℕ) (operands : List Operand) (next : ℕ) → IsWellFormed core → IsSafe core.exprs → All IsHeldExpr core.exprs → ExprsUnfold → AreCells core.cells next operands → IsOrder core.exprs roots order
    → IsLowered core roots operands next (emit core.exprs core.cells operands order order [] next).code (map (λ (e : ℕ). (found order (emit core.exprs core.cells operands order order [] next).done e).operand) roots)
lowered core roots order operands next fits safe held unfolds are is =
    let known : Known core = record { fits = fits; safe = safe; words = recursion_from_All IsHeldExpr core.exprs held; unfolds = unfolds } in
    let has = HasCell core.cells operands in
    let em = emit core.exprs core.cells operands order order [] next in
    let fine = emit_fine core roots operands has next next order [] order [] known are (omega arith) (λ r t h. h) is refl (start_fine core has next order) in
    record {
      values = λ labels s cells holds.
          let ran = emit_runs core roots operands cells labels s has next next order [] order [] known are (omega arith) (λ r t h. h) is refl (start_fine core has next order) holds (λ k among. absurd among) in
          (ran.s', ran.runs, holds_same s ran.s' core.cells operands cells next next (omega arith) are ran.same holds, values_held core (Behind has em.code) cells ran.s' (next + length em.code) order em.done roots is.has_roots fine.each ran.values);
      constants = constants_kept core (Behind has em.code) (next + length em.code) order em.done roots is.has_roots fine.each;
      few = code_few core.exprs core.cells operands roots order next is;
      registers = (emit_registers core.exprs core.cells operands order order [] next).0;
      each = (emit_registers core.exprs core.cells operands order order [] next).1;
      reads = fine.reads;
      fixed = fine.fixed;
      typed = types_kept core (Behind has em.code) (next + length em.code) order em.done roots is.has_roots fine.each;
      below = all_below core (Behind has em.code) (next + length em.code) order em.done roots is.has_roots fine.each;
    }
