-- The one function that gives the code of expressions.
use Rattle.std.proofs.Common.{◌≡◌, ℕ, zero, suc, ◌+◌, ◌<◌, ◌≤◌, ◌⊎◌, inl, inr, nat_eq, cond, Bool, true, false, ◌||◌, All, List, [], ◌∷◌, ◌++◌, length, map, get_or, pos, Option, Some, None, refl, sym, ap, ◌∙◌, subst, ⊎_elim, arith, length-append}
use Rattle.std.specs.Prelude.{slice_get, filter}
use Rattle.std.specs.List.{AllByRecursion, list_any}
use Rattle.std.proofs.lemmas.Bool.{false≢true, cases_lt, eqb-true}
use Rattle.std.proofs.lemmas.Option.{slice_get-get_or}
use Rattle.std.proofs.lemmas.List.Elements.{recursion_from_All}
use Rattle.qir_module.specs.declared.instruction.Operand.{Operand}
use Rattle.qir_module.specs.declared.instruction.Instr.{Instr}
use Rattle.qir_module.specs.Numbered.{counted}
use Rattle.core_ir.specs.declared.expression.CellKind.{CellKind}
use Rattle.core_ir.specs.declared.expression.CoreExpr.{CoreExpr}
use Rattle.core_ir.specs.declared.expression.CoreExpr.TheVariants.{Cell as CellNode, Truth as TruthNode, Number as NumberNode, Op as OpNode, Widen as WidenNode, Narrow as NarrowNode, Choose as ChooseNode}
use Rattle.core_ir.specs.Core.{Core}
use Rattle.core_ir.specs.Size.{operands_of, reaches_within, reaches_expr, is_reached}
use Rattle.core_ir.specs.WellFormed.{IsWellFormed, IsSafe}
use Rattle.core_ir.specs.Laws.{NameEarlier, ExprsUnfold}
use Rattle.expr_lower.specs.declared.emit.Entry.{Entry}
use Rattle.expr_lower.specs.Emit.{found, entry_of, code_of, Emitted, emit}
use Rattle.expr_lower.specs.Lowered.{IsHeldExpr, IsConstant, AreConstant, AreCells, IsLowered}
use Rattle.expr_lower.specs.Coded.{Coded, order_of, coded, IsCoded}
use Rattle.expr_lower.specs.Order.{Among, Rises, IsOrder}
use Rattle.expr_lower.proofs.Collecting.{all_at, all_each, all_weaker, any_from, or_cases, root_reached, reach_step, among_cases}
use Rattle.expr_lower.proofs.Counting.{Inside, all_inside, inside_all}
use Rattle.expr_lower.proofs.Emits.{lowered, append_nil, next_front, kept_in, new_in, among_here}

-- ---- the numbers that pass a test

abbrev IsPicked : (ℕ → Bool) → ℕ → ℕ → ℕ → Type 0
IsPicked test low n k = Inside low n k × (test k ≡ true)

picked_all : (test : ℕ → Bool) (n low : ℕ) → AllByRecursion (IsPicked test low n) (filter test (counted low n))
picked_all test zero low = tt
picked_all test (suc n) low = here (test low) refl (all_weaker (IsPicked test (suc low) n) (IsPicked test low (suc n)) (filter test (counted (suc low) n)) wider (picked_all test n (suc low)))
  where
    wider : (k : ℕ) → IsPicked test (suc low) n k → IsPicked test low (suc n) k
    wider k is = ((omega (arith, is.0.0), omega (arith, is.0.1)), is.1)

    here : (b : Bool) → test low ≡ b → AllByRecursion (IsPicked test low (suc n)) (filter test (counted (suc low) n))
        → AllByRecursion (IsPicked test low (suc n)) (cond b (low ∷ filter test (counted (suc low) n)) (filter test (counted (suc low) n)))
    here true passes behind = (((omega arith, omega arith), passes), behind)
    here false passes behind = behind

picked_rises : (test : ℕ → Bool) (n low : ℕ) → Rises (filter test (counted low n))
picked_rises test zero low = tt
picked_rises test (suc n) low = here (test low) (picked_rises test n (suc low))
  where
    above : AllByRecursion (λ y. low < y) (filter test (counted (suc low) n))
    above = all_weaker (IsPicked test (suc low) n) (λ y. low < y) (filter test (counted (suc low) n)) (λ k is. omega (arith, is.0.0)) (picked_all test n (suc low))

    here : (b : Bool) → Rises (filter test (counted (suc low) n)) → Rises (cond b (low ∷ filter test (counted (suc low) n)) (filter test (counted (suc low) n)))
    here true behind = (above, behind)
    here false behind = behind

picked_has : (test : ℕ → Bool) (n low k : ℕ) → Inside low n k → test k ≡ true → Among k (filter test (counted low n))
picked_has test zero low k inside passes = absurd (omega (arith, inside.0, inside.1))
picked_has test (suc n) low k inside passes =
    ⊎_elim (λ far. there (test low) (picked_has test n (suc low) k (omega (arith, far), omega (arith, inside.1)) passes))
    (λ near. let same : low ≡ k = omega (arith, near, inside.0) in first (test low) (ap test same ∙ passes) (sym same))
    (cases_lt low k)
  where
    there : (b : Bool) → Among k (filter test (counted (suc low) n)) → Among k (cond b (low ∷ filter test (counted (suc low) n)) (filter test (counted (suc low) n)))
    there true among = inr among
    there false among = among

    first : (b : Bool) → b ≡ true → k ≡ low → Among k (cond b (low ∷ filter test (counted (suc low) n)) (filter test (counted (suc low) n)))
    first true so same = inl same
    first false so same = absurd (false≢true so)

-- a list that rises and has exactly the numbers that pass is theirs
same_picked : (test : ℕ → Bool) (n low : ℕ) (ks : List ℕ) → Rises ks → AllByRecursion (Inside low n) ks → AllByRecursion (λ k. test k ≡ true) ks → ((k : ℕ) → Inside low n k → test k ≡ true → Among k ks) → ks ≡ filter test (counted low n)
same_picked test zero low [] rises inside passes has = refl
same_picked test zero low (k ∷ ks) rises inside passes has = absurd (omega (arith, inside.0.0, inside.0.1))
same_picked test (suc n) low [] rises inside passes has = none (test low) refl (same_picked test n (suc low) [] tt tt tt (λ k i p. has k (omega (arith, i.0), omega (arith, i.1)) p))
  where
    none : (b : Bool) → test low ≡ b → [] ≡ filter test (counted (suc low) n) → [] ≡ cond b (low ∷ filter test (counted (suc low) n)) (filter test (counted (suc low) n))
    none true so behind = absurd (has low (omega arith, omega arith) so)
    none false so behind = behind
same_picked test (suc n) low (k ∷ ks) rises inside passes has =
    ⊎_elim (λ far. later far (test low) refl (same_picked test n (suc low) (k ∷ ks) rises ((omega (arith, far), omega (arith, inside.0.1)), all_inside low n k ks (omega (arith, far)) rises.0 inside.1) passes (skipped far)))
    (λ near. let same : k ≡ low = omega (arith, near, inside.0.0) in
    now same (test low) refl (same_picked test n (suc low) ks rises.1 (all_inside low n k ks (omega (arith, same)) rises.0 inside.1) passes.1 (behind_has same)))
    (cases_lt low k)
  where
    skipped : low < k → (j : ℕ) → Inside (suc low) n j → test j ≡ true → Among j (k ∷ ks)
    skipped far j i p = has j (omega (arith, i.0), omega (arith, i.1)) p

    later : low < k → (b : Bool) → test low ≡ b → k ∷ ks ≡ filter test (counted (suc low) n) → k ∷ ks ≡ cond b (low ∷ filter test (counted (suc low) n)) (filter test (counted (suc low) n))
    later far true so behind = absurd (⊎_elim (λ same. omega (arith, same, far)) (λ there. omega (arith, far, all_at (λ y. k < y) ks low rises.0 there)) (has low (omega arith, omega arith) so))
    later far false so behind = behind

    behind_has : k ≡ low → (j : ℕ) → Inside (suc low) n j → test j ≡ true → Among j ks
    behind_has same j i p = ⊎_elim (λ is. absurd (omega (arith, is, same, i.0))) (λ behind. behind) (has j (omega (arith, i.0), omega (arith, i.1)) p)

    now : k ≡ low → (b : Bool) → test low ≡ b → ks ≡ filter test (counted (suc low) n) → k ∷ ks ≡ cond b (low ∷ filter test (counted (suc low) n)) (filter test (counted (suc low) n))
    now same true so rest = ap (λ (i : ℕ). i ∷ ks) same ∙ ap (λ (is : List ℕ). low ∷ is) rest
    now same false so rest = absurd (false≢true (sym so ∙ ap test (sym same) ∙ passes.0))

-- ---- the order

-- what stands in an order stands there with all that it reaches
all_reached : (exprs : List CoreExpr) (order : List ℕ) → ((k : ℕ) → Among k order → AllByRecursion (λ j. Among j order) (operands_of (slice_get exprs k)))
    → (levels k e : ℕ) → Among e order → reaches_within exprs levels k e ≡ true → Among k order
all_reached exprs order closed zero k e among reach = absurd (false≢true reach)
all_reached exprs order closed (suc levels) k e among reach =
    ⊎_elim (λ same. subst (λ (i : ℕ). Among i order) (eqb-true e k same) among)
    (λ below. let via = any_from (reaches_within exprs levels k) (operands_of (slice_get exprs e)) below in
    all_reached exprs order closed levels k via.0 (all_at (λ j. Among j order) (operands_of (slice_get exprs e)) via.0 (closed e among) via.1) via.2)
    (or_cases (nat_eq e k) (list_any (reaches_within exprs levels k) (operands_of (slice_get exprs e))) reach)

in_order : (exprs : List CoreExpr) (roots order : List ℕ) (k : ℕ) → IsOrder exprs roots order → is_reached exprs roots k ≡ true → Among k order
unfolding reaches_expr
in_order exprs roots order k is reach =
    let via = any_from (reaches_expr exprs k) roots reach in
    all_reached exprs order is.closed (suc via.0) k via.0 (all_at (λ e. Among e order) roots via.0 is.has_roots via.1) via.2

-- there is one order
pub one_order : (exprs : List CoreExpr) (roots order : List ℕ) → IsOrder exprs roots order → order ≡ order_of exprs roots
one_order exprs roots order is =
    same_picked (is_reached exprs roots) (length exprs) 0 order is.rises (inside_all (length exprs) order is.within) is.reached (λ k inside reach. in_order exprs roots order k is reach)

has_reached : (exprs : List CoreExpr) (roots : List ℕ) (k : ℕ) → k < length exprs → is_reached exprs roots k ≡ true → Among k (order_of exprs roots)
has_reached exprs roots k l reach = picked_has (is_reached exprs roots) (length exprs) 0 k (omega arith, omega (arith, l)) reach

order_within : (exprs : List CoreExpr) (roots : List ℕ) → AllByRecursion (λ k. k < length exprs) (order_of exprs roots)
order_within exprs roots =
    all_weaker (IsPicked (is_reached exprs roots) 0 (length exprs)) (λ k. k < length exprs) (order_of exprs roots) (λ k is. omega (arith, is.0.1)) (picked_all (is_reached exprs roots) (length exprs) 0)

is_order : (exprs : List CoreExpr) (roots : List ℕ) → NameEarlier exprs (length exprs) → AllByRecursion (λ e. e < length exprs) roots → IsOrder exprs roots (order_of exprs roots)
is_order exprs roots earlier within = record {
  rises = picked_rises (is_reached exprs roots) (length exprs) 0;
  within = order_within exprs roots;
  reached = all_weaker (IsPicked (is_reached exprs roots) 0 (length exprs)) (λ k. is_reached exprs roots k ≡ true) (order_of exprs roots) (λ k is. is.1) (picked_all (is_reached exprs roots) (length exprs) 0);
  closed = λ k among. all_each (λ j. Among j (order_of exprs roots)) (operands_of (slice_get exprs k)) (names k among);
  has_roots = all_each (λ e. Among e (order_of exprs roots)) roots (λ e among. has_reached exprs roots e (all_at (λ i. i < length exprs) roots e within among) (root_reached exprs roots e among));
}
  where
    names : (k : ℕ) → Among k (order_of exprs roots) → (j : ℕ) → Among j (operands_of (slice_get exprs k)) → Among j (order_of exprs roots)
    names k among j named =
        let here = all_at (IsPicked (is_reached exprs roots) 0 (length exprs)) (order_of exprs roots) k (picked_all (is_reached exprs roots) (length exprs) 0) among in
        let lower : j < k = all_at (λ i. i < k) (operands_of (slice_get exprs k)) j (earlier k (omega (arith, here.0.1))) named in
        has_reached exprs roots j (omega (arith, lower, here.0.1)) (reach_step exprs roots k j earlier within named here.1)

-- ---- constants

node_constant : (kinds : List CellKind) (cells : List Operand) (memo : ℕ → Entry) (next : ℕ) (node : CoreExpr) → IsConstant (Some node) (entry_of kinds cells memo next node).operand
node_constant kinds cells memo next (CellNode c) = tt
node_constant kinds cells memo next (TruthNode true) = refl
node_constant kinds cells memo next (TruthNode false) = refl
node_constant kinds cells memo next (NumberNode z) = refl
node_constant kinds cells memo next (OpNode op a b) = tt
node_constant kinds cells memo next (WidenNode a) = tt
node_constant kinds cells memo next (NarrowNode a) = tt
node_constant kinds cells memo next (ChooseNode test a b) = tt

abbrev IsDone : List CoreExpr → List ℕ → List Entry → ℕ → Type 0
IsDone exprs order done k = IsConstant (slice_get exprs k) (found order done k).operand

emit_constants : (exprs : List CoreExpr) (kinds : List CellKind) (cells : List Operand) (order front rest : List ℕ) (done : List Entry) (next : ℕ) → Rises order → AllByRecursion (λ k. k < length exprs) order
    → order ≡ front ++ rest → length done ≡ length front → ((k : ℕ) → Among k front → IsDone exprs order done k)
    → (k : ℕ) → Among k order → IsDone exprs order (emit exprs kinds cells order rest done next).done k
emit_constants exprs kinds cells order front [] done next rises within split long before k among = before k (subst (Among k) (split ∙ append_nil front) among)
emit_constants exprs kinds cells order front (i ∷ rest) done next rises within split long before k among =
    let node = get_or exprs i (TruthNode false) in
    let entry = entry_of kinds cells (found order done) next node in
    emit_constants exprs kinds cells order (front ++ i ∷ []) rest (done ++ entry ∷ []) (next + length (code_of (found order done) next node)) rises within (next_front order front rest i split)
    (length-append done (entry ∷ []) ∙ ap (λ (n : ℕ). n + 1) long ∙ sym (length-append front (i ∷ []))) step k among
  where
    step : (j : ℕ) → Among j (front ++ i ∷ []) → IsDone exprs order (done ++ entry_of kinds cells (found order done) next (get_or exprs i (TruthNode false)) ∷ []) j
    step j there =
        let node = get_or exprs i (TruthNode false) in
        let entry = entry_of kinds cells (found order done) next node in
        ⊎_elim (λ early. subst (λ (e : Entry). IsConstant (slice_get exprs j) e.operand) (sym (kept_in order front rest done entry i j split long early)) (before j early))
        (λ last. ⊎_elim (λ same. subst (λ (m : ℕ). IsDone exprs order (done ++ entry ∷ []) m) (sym same)
        (subst (λ (e : Entry). IsConstant (slice_get exprs i) e.operand) (sym (new_in order front rest done entry i split rises long))
        (subst (λ (o : Option CoreExpr). IsConstant o entry.operand) (sym (slice_get-get_or exprs i (TruthNode false) (all_at (λ m. m < length exprs) order i within (among_here order front rest i split)))) (node_constant kinds cells (found order done) next node))))
        (λ none. absurd none) last) (among_cases j front (i ∷ []) there)

past_constant : (exprs : List CoreExpr) (e : ℕ) (o : Operand) → length exprs ≤ e → IsConstant (slice_get exprs e) o
past_constant [] e o le = tt
past_constant (x ∷ exprs) zero o le = absurd (omega (arith, le))
past_constant (x ∷ exprs) (suc e) o le = past_constant exprs e o (omega (arith, le))

constants_of : (exprs : List CoreExpr) (roots order : List ℕ) (done : List Entry) (es : List ℕ) → ((e : ℕ) → Among e es → e < length exprs → Among e order) → ((k : ℕ) → Among k order → IsDone exprs order done k)
    → AreConstant exprs es (map (λ (e : ℕ). (found order done e).operand) es)
constants_of exprs roots order done [] has each = tt
constants_of exprs roots order done (e ∷ es) has each =
    (⊎_elim (λ l. each e (has e (inl refl) l)) (λ past. past_constant exprs e (found order done e).operand past) (cases_lt e (length exprs)), constants_of exprs roots order done es (λ i among l. has i (inr among) l) each)

-- ---- the law

code_constants : (core : Core) (exprs : List ℕ) (cells : List Operand) (next : ℕ) → AreConstant core.exprs exprs (coded core exprs cells next).operands
unfolding coded
code_constants core exprs cells next =
    let order = order_of core.exprs exprs in
    constants_of core.exprs exprs order (emit core.exprs core.cells cells order order [] next).done exprs (λ e among l. has_reached core.exprs exprs e l (root_reached core.exprs exprs e among))
    (emit_constants core.exprs core.cells cells order [] order [] next (picked_rises (is_reached core.exprs exprs) (length core.exprs) 0) (order_within core.exprs exprs) refl refl (λ k among. absurd among))

code_lowers : (core : Core) (exprs : List ℕ) (cells : List Operand) (next : ℕ) → IsWellFormed core → IsSafe core.exprs → All IsHeldExpr core.exprs → ExprsUnfold → All (λ e. e < length core.exprs) exprs → AreCells core.cells next cells
    → IsLowered core exprs cells next (coded core exprs cells next).code (coded core exprs cells next).operands
unfolding coded
code_lowers core exprs cells next fits safe held unfolds within are =
    lowered core exprs (order_of core.exprs exprs) cells next fits safe held unfolds are
    (is_order core.exprs exprs (λ k l. (fits.exprs k l).0) (recursion_from_All (λ e. e < length core.exprs) exprs within))

pub is_coded : ExprsUnfold → (core : Core) → IsWellFormed core → IsSafe core.exprs → All IsHeldExpr core.exprs → IsCoded core
is_coded unfolds core fits safe held = record {
  constants = code_constants core;
  lowers = λ exprs cells next within are. code_lowers core exprs cells next fits safe held unfolds within are;
}

-- ---- for the code

-- what is emitted of lists that are those of the core and of the order is the code
pub coded_by : (core : Core) (roots order order' order'' : List ℕ) (exprs exprs' : List CoreExpr) (kinds : List CellKind) (operands : List Operand) (next : ℕ) (done done' : List Entry) (code : List Instr) (picked : List Operand)
    → exprs ≡ core.exprs → IsOrder exprs roots order → exprs' ≡ core.exprs → kinds ≡ core.cells → order' ≡ order → order'' ≡ order
    → done ≡ (emit exprs' kinds operands order' order' [] next).done → code ≡ (emit exprs' kinds operands order' order' [] next).code → done' ≡ done
    → picked ≡ map (λ (e : ℕ). (found order'' done' e).operand) roots → (code ≡ (coded core roots operands next).code) × (picked ≡ (coded core roots operands next).operands)
unfolding coded
coded_by core roots order order' order'' exprs exprs' kinds operands next done done' code picked is order_is is' kinds_are same same' done_is code_is done_same picked_is =
    let one : order ≡ order_of core.exprs roots = one_order core.exprs roots order (subst (λ (es : List CoreExpr). IsOrder es roots order) is order_is) in
    let emitted : emit exprs' kinds operands order' order' [] next ≡ emit core.exprs core.cells operands (order_of core.exprs roots) (order_of core.exprs roots) [] next =
    ap (λ (es : List CoreExpr). emit es kinds operands order' order' [] next) is' ∙ ap (λ (ks : List CellKind). emit core.exprs ks operands order' order' [] next) kinds_are ∙ ap (λ (o : List ℕ). emit core.exprs core.cells operands o o [] next) (same ∙ one) in (
      code_is ∙ ap (λ (em : Emitted). em.code) emitted,
      picked_is ∙ ap (λ (o : List ℕ). map (λ (e : ℕ). (found o done' e).operand) roots) (same' ∙ one)
          ∙ ap (λ (d : List Entry). map (λ (e : ℕ). (found (order_of core.exprs roots) d e).operand) roots) (done_same ∙ done_is ∙ ap (λ (em : Emitted). em.done) emitted),
    )
