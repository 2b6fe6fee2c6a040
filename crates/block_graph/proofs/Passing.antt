-- Along every way forward through the module, whatever its tests answer, each operand that is taken has a value.
use Rattle.std.proofs.Common.{◌≡◌, ℕ, zero, suc, ◌<◌, inl, inr, ⊎_elim, nat_eq, Bool, true, false, ◌||◌, All, List, [], ◌∷◌, ◌++◌, length, map, pos, Option, Some, None, refl, sym, ap, ◌∙◌, subst, arith, append-nil, eq-eqb, eqb-true}
use Rattle.std.specs.Prelude.{slice_get, slice_set, if◌then◌else◌}
use Rattle.std.specs.List.{AllByRecursion}
use Rattle.std.proofs.lemmas.List.Elements.{recursion_from_All}
use Rattle.qq_base.specs.declared.run.QubitId.{QubitId}
use Rattle.qir_module.specs.declared.instruction.Operand.{Operand}
use Rattle.qir_module.specs.declared.instruction.Operand.TheVariants.{Register}
use Rattle.qir_module.specs.declared.instruction.Instr.{Instr}
use Rattle.qir_module.specs.declared.instruction.Last.{Last}
use Rattle.qir_module.specs.declared.instruction.Last.TheVariants.{Jump, Branch, Return}
use Rattle.qir_module.specs.declared.block.Block.{Block as ModuleBlock}
use Rattle.qir_module.specs.Module.{Module}
use Rattle.qir_module.specs.Numbered.{is_among}
use Rattle.qir_module.specs.Carried.{targets_of}
use Rattle.qir_module.specs.Machine.{Holds as HoldsTruth, State, first_state, with_register, with_result, truth_in, Effect, Goes, Does, Shows, Measures, Fails, truth_read, effect_of, take_phis}
use Rattle.core_ir.specs.declared.expression.CellKind.TheVariants.{Truth as TruthCell}
use Rattle.core_ir.specs.declared.statement.LeafCall.{LeafCall}
use Rattle.core_ir.specs.declared.program.Output.{Output}
use Rattle.core_ir.specs.Core.{Core}
use Rattle.core_ir.specs.Tree.{Stmt, Skip, Seq, Assign, Gate, Reset, Measure, If, Block, Loop, Leave, Again, program_of}
use Rattle.core_ir.specs.Run.{Cells, first_value, value_at, truth_in_value, assigned_cells}
use Rattle.core_ir.specs.WellFormed.{kind_at, PairFits, LeafFits, OutputFits}
use Rattle.cell_operands.specs.Operands.{HoldsCells}
use Rattle.expr_lower.specs.Lowered.{HoldValues, straight, then_state, goes_on}
use Rattle.block_graph.specs.Bounds.{IsHeldLeaf, IsHeldOutput}
use Rattle.block_graph.specs.Fitting.{IsFit}
use Rattle.block_graph.specs.Lowering.{first_operand, gate_call, record_call}
use Rattle.block_graph.specs.Stretch.{Place, Leads, GoesTo, Joins, Merges, AssignLow, GateLow, ResetLow, DropLow, ReadLow, Branches, end_at, Low, Returns, IsGraphOf}
use Rattle.block_graph.proofs.Flow.{or_cases}
use Rattle.block_graph.proofs.Holding.{HoldsAll, truth_read_as, truth_here, result_holds, set_holds, store_holds, first_holds}
use Rattle.block_graph.proofs.Calling.{gate_effect, record_effect}

-- ---- ways forward

-- behind an instruction, where a measurement may answer false
abbrev pub after_effect : Effect → Option State
after_effect (Goes s) = Some s
after_effect (Does event s) = Some s
after_effect (Shows shown s) = Some s
after_effect (Measures qubit result s) = Some (with_result s result false)
after_effect Fails = None

abbrev pub GoesOn : Option State → (State → Type 0) → Type 0
GoesOn None K = ⊥
GoesOn (Some s) K = K s

-- none of the instructions fails, and K holds behind them
abbrev pub Runs : ℕ → List Instr → (State → Type 0) → State → Type 0
Runs labels [] K s = K s
Runs labels (i ∷ is) K s = GoesOn (after_effect (effect_of labels s i)) (Runs labels is K)

abbrev pub HasTest : Last → State → Type 0
HasTest (Branch test first second) s = (b : Bool) × (truth_in s test ≡ Some b)
HasTest (Jump to) s = Unit {0}
HasTest (Return code) s = Unit {0}

-- at the end of block b: each target takes its phis, and runs on where it stands later, for up to n blocks
abbrev pub Ends : Module → ℕ → ℕ → Last → State → Type 0
Ends m zero b last s = HasTest last s
Ends m (suc n) b last s = HasTest last s × ((x : ℕ) (t : ModuleBlock) → is_among (targets_of last) x ≡ true → slice_get m.blocks x ≡ Some t → GoesOn (take_phis t.phis (Some b) s) (λ s'. b < x → Runs (length m.labels) t.body (Ends m n x t.last) s'))

runs_straight : (labels : ℕ) (code rest : List Instr) (K : State → Type 0) (s s' : State) → straight labels code s ≡ Some s' → Runs labels rest K s' → Runs labels (code ++ rest) K s
runs_straight labels [] rest K s s' e r = let same : s ≡ s' = cc e in subst (Runs labels rest K) (sym same) r
runs_straight labels (i ∷ code) rest K s s' e r = at (effect_of labels s i) e (λ t h. runs_straight labels code rest K t s' h r)
  where
    at : (f : Effect) → then_state (goes_on f) (straight labels code) ≡ Some s' → ((t : State) → straight labels code t ≡ Some s' → Runs labels (code ++ rest) K t) → GoesOn (after_effect f) (Runs labels (code ++ rest) K)
    at (Goes t) h next = next t h
    at (Does event t) h next = absurd (cc h)
    at (Shows shown t) h next = absurd (cc h)
    at (Measures qubit result t) h next = absurd (cc h)
    at Fails h next = absurd (cc h)

module _ (core : Core) (m : Module) (labelled : m.labels ≡ core.labels) where
  record Fine (p : Place) : Type 0 where
    by : (n : ℕ) (s : State) (cells : Cells) → HoldsAll core.cells s p.values cells → Runs (length m.labels) p.rest (Ends m n p.block p.last) s

  abbrev FineIf : Option Place → Type 0
  FineIf None = Unit {0}
  FineIf (Some p) = Fine p

  record EachFine (ends : List (Option Place)) : Type 0 where
    by : (k : ℕ) (p : Place) → end_at ends k ≡ Some p → Fine p

  more_fine : (end : Option Place) (ends : List (Option Place)) → FineIf end → EachFine ends → EachFine (end ∷ ends)
  more_fine end ends a b = record { by = at }
    where
      at : (k : ℕ) (p : Place) → end_at (end ∷ ends) k ≡ Some p → Fine p
      at zero p e = subst FineIf e a
      at (suc k) p e = b.by k p e

  -- ---- jumps

  enters : (n from x : ℕ) (before : List Operand) (to : Place) (s : State) (cells : Cells) (t : ModuleBlock) → x ≡ to.block → Leads core.cells m from before to → HoldsAll core.cells s before cells → slice_get m.blocks x ≡ Some t → (from < to.block → Fine to) → GoesOn (take_phis t.phis (Some from) s) (λ s'. from < x → Runs (length m.labels) t.body (Ends m n x t.last) s')
  enters n from x before to s cells t e l h is fine =
      let c = l.carries.by s cells h.holds in
      let same : l.target ≡ t = cc (sym l.found ∙ ap (slice_get m.blocks) (sym e) ∙ is) in
      let held : HoldsAll core.cells c.0 to.values cells = record { each_operand = l.long; each_value = h.each_value; holds = c.2 } in
      subst (λ (y : ℕ). GoesOn (take_phis t.phis (Some from) s) (λ s'. from < y → Runs (length m.labels) t.body (Ends m n y t.last) s')) (sym e)
      (subst (λ (q : ModuleBlock). GoesOn (take_phis q.phis (Some from) s) (λ s'. from < to.block → Runs (length m.labels) q.body (Ends m n to.block q.last) s')) same
      (subst (λ (o : Option State). GoesOn o (λ s'. from < to.block → Runs (length m.labels) l.target.body (Ends m n to.block l.target.last) s')) (sym c.1)
      (λ lt. subst (λ (b : List Instr). Runs (length m.labels) b (Ends m n to.block l.target.last) c.0) (sym l.body) (subst (λ (z : Last). Runs (length m.labels) to.rest (Ends m n to.block z) c.0) (sym l.last) ((fine lt).by n c.0 cells held)))))

  jump_fine : (p to : Place) → GoesTo core.cells m p to → (p.block < to.block → Fine to) → Fine p
  jump_fine p to g fine = record { by = λ n s cells h. subst (λ (b : List Instr). Runs (length m.labels) b (Ends m n p.block p.last) s) (sym g.rest) (subst (λ (z : Last). Ends m n p.block z s) (sym g.last) (at n s cells h)) }
    where
      at : (n : ℕ) (s : State) (cells : Cells) → HoldsAll core.cells s p.values cells → Ends m n p.block (Jump to.block) s
      at zero s cells h = tt
      at (suc n) s cells h = (tt, (λ x t e is. ⊎_elim (λ q. enters n p.block x p.values to s cells t (eqb-true x to.block q) g.leads h is fine) (λ q. absurd (cc q)) (or_cases (nat_eq x to.block) false e)))

  join_fine : (p join : Option Place) → Joins core.cells m p join → FineIf join → FineIf p
  join_fine None join j a = tt
  join_fine (Some p) None j a = absurd j
  join_fine (Some p) (Some to) j a = jump_fine p to j.goes (λ lt. a)

  merge_fine : (first second end : Option Place) → Merges core.cells m first second end → FineIf end → FineIf first × FineIf second
  merge_fine first second end (inl j) a = (join_fine first end j.0 a, join_fine second end j.1 a)
  merge_fine first second end (inr (inl e)) a = (subst FineIf (sym e.0) tt, subst FineIf e.1 a)
  merge_fine first second end (inr (inr e)) a = (subst FineIf e.1 a, subst FineIf (sym e.0) tt)

  -- ---- statements

  assign_fine : (pairs : List (ℕ × ℕ)) (p : Place) (end : Option Place) → All (PairFits core) pairs → AssignLow core pairs p end → FineIf end → Fine p
  assign_fine pairs p end fit l a = record {
    by = λ n s cells h.
        let r = l.computes.by (length m.labels) s cells h.holds in
        let next = subst FineIf l.ends a in
        let held : HoldsAll core.cells r.0 p.values cells = record { each_operand = h.each_operand; each_value = h.each_value; holds = r.2 } in
        subst (λ (b : List Instr). Runs (length m.labels) b (Ends m n p.block p.last) s) (sym l.is)
        (runs_straight (length m.labels) l.code l.rest (Ends m n p.block p.last) s r.0 r.1
        (next.by n r.0 (assigned_cells core.exprs pairs cells cells) (store_holds core pairs l.operands p.values cells cells r.0 (recursion_from_All (PairFits core) pairs fit) r.3 held)));
  }

  gate_fine : (leaf : LeafCall) (p : Place) (end : Option Place) → LeafFits core leaf → IsHeldLeaf leaf → GateLow core leaf p end → FineIf end → Fine p
  gate_fine leaf p end fit held l a = record {
    by = λ n s cells h.
        let r = l.computes.by (length m.labels) s cells h.holds in
        let next = subst FineIf l.ends a in
        let here : HoldsAll core.cells r.0 p.values cells = record { each_operand = h.each_operand; each_value = h.each_value; holds = r.2 } in
        subst (λ (b : List Instr). Runs (length m.labels) b (Ends m n p.block p.last) s) (sym l.is)
        (runs_straight (length m.labels) l.code (gate_call leaf l.operands ∷ l.rest) (Ends m n p.block p.last) s r.0 r.1
        (subst (λ (e : Effect). GoesOn (after_effect e) (Runs (length m.labels) l.rest (Ends m n p.block p.last))) (sym (gate_effect core leaf l.operands r.0 cells (length m.labels) fit held r.3))
        (next.by n r.0 cells here)));
  }

  reset_fine : (qubit : QubitId) (p : Place) (end : Option Place) → ResetLow qubit p end → FineIf end → Fine p
  reset_fine qubit p end l a = record {
    by = λ n s cells h.
        let next = subst FineIf l.ends a in
        subst (λ (b : List Instr). Runs (length m.labels) b (Ends m n p.block p.last) s) (sym l.is) (next.by n s cells h);
  }

  drop_fine : (qubit : QubitId) (p : Place) (end : Option Place) → DropLow qubit p end → FineIf end → Fine p
  drop_fine qubit p end l a = record {
    by = λ n s cells h.
        let next = subst FineIf l.ends a in
        subst (λ (b : List Instr). Runs (length m.labels) b (Ends m n p.block p.last) s) (sym l.is)
        (next.by n (with_result s l.result false) cells (record { each_operand = h.each_operand; each_value = h.each_value; holds = result_holds core.cells s l.result false p.values cells h.holds }));
  }

  read_fine : (qubit : QubitId) (c : ℕ) (p : Place) (end : Option Place) → slice_get core.cells c ≡ Some TruthCell → ReadLow core qubit c p end → FineIf end → Fine p
  read_fine qubit c p end fit l a = record {
    by = λ n s cells h.
        let next = subst FineIf l.ends a in
        let mid = with_result s l.result false in
        let new = with_register mid l.register (HoldsTruth false) in
        let kept = l.fresh.by mid cells (HoldsTruth false) (result_holds core.cells s l.result false p.values cells h.holds) in
        let held : HoldsAll core.cells new p.values cells = record { each_operand = h.each_operand; each_value = h.each_value; holds = kept } in
        subst (λ (b : List Instr). Runs (length m.labels) b (Ends m n p.block p.last) s) (sym l.is)
        (subst (λ (o : Option Bool). GoesOn (after_effect (truth_read mid l.register o)) (Runs (length m.labels) l.rest (Ends m n p.block p.last))) (sym (result_read s l.result false))
        (next.by n new (slice_set cells c (HoldsTruth false)) (set_holds core.cells new p.values cells c (Register l.register) (HoldsTruth false) TruthCell held fit (truth_here mid l.register false))));
  }
    where
      result_read : (s : State) (r : ℕ) (b : Bool) → (with_result s r b).results r ≡ Some b
      result_read s r b = ap (λ (same : Bool). if same then Some b else s.results r) (eq-eqb r r refl)

  branch_fine : (test : ℕ) (p yes_at no_at : Place) → kind_at core test ≡ Some TruthCell → Branches core m test p yes_at no_at → Fine yes_at → Fine no_at → Fine p
  branch_fine test p yes_at no_at fit l ay an = record {
    by = λ n s cells h.
        let r = l.computes.by (length m.labels) s cells h.holds in
        let held : HoldsAll core.cells r.0 p.values cells = record { each_operand = h.each_operand; each_value = h.each_value; holds = r.2 } in
        let whole : p.rest ≡ l.code ++ [] = l.is ∙ sym (append-nil l.code) in
        subst (λ (b : List Instr). Runs (length m.labels) b (Ends m n p.block p.last) s) (sym whole)
        (runs_straight (length m.labels) l.code [] (Ends m n p.block p.last) s r.0 r.1
        (subst (λ (z : Last). Ends m n p.block z r.0) (sym l.last) (at n r.0 cells held (truth_in_value (value_at core.exprs test cells), first_truth r.0 cells l.operands r.3))));
  }
    where
      first_truth : (s : State) (cells : Cells) (operands : List Operand) → HoldValues s core cells (test ∷ []) operands → truth_in s (first_operand operands) ≡ Some (truth_in_value (value_at core.exprs test cells))
      first_truth s cells [] held = absurd held
      first_truth s cells (o ∷ operands) held = truth_read_as (truth_in s o) (value_at core.exprs test cells) (held.0 TruthCell fit)

      at : (n : ℕ) (s : State) (cells : Cells) → HoldsAll core.cells s p.values cells → (b : Bool) × (truth_in s (first_operand l.operands) ≡ Some b) → Ends m n p.block (Branch (first_operand l.operands) yes_at.block no_at.block) s
      at zero s cells h has = has
      at (suc n) s cells h has = (
        has,
        (λ x t e is. ⊎_elim (λ q. enters n p.block x p.values yes_at s cells t (eqb-true x yes_at.block q) l.leads_yes h is (λ lt. ay)) (λ g. ⊎_elim (λ q. enters n p.block x p.values no_at s cells t (eqb-true x no_at.block q) l.leads_no h is (λ lt. an)) (λ q. absurd (cc q)) (or_cases (nat_eq x no_at.block) false g)) (or_cases (nat_eq x yes_at.block) (nat_eq x no_at.block || false) e)),
      )

  statement_fine : (s : Stmt) (start end : Option Place) (ends : List (Option Place)) (starts : List Place) → IsFit core s → Low core m s start end ends starts → EachFine ends → FineIf end → FineIf start
  statement_fine Skip start end ends starts fit l la a = subst FineIf l a
  statement_fine (Seq a b) start end ends starts fit l la ag = statement_fine a start l.0 ends starts fit.0 l.1 la (statement_fine b l.0 end ends starts fit.1 l.2 la ag)
  statement_fine (Assign pairs) None end ends starts fit l la a = tt
  statement_fine (Assign pairs) (Some p) end ends starts fit l la a = assign_fine pairs p end fit l a
  statement_fine (Gate leaf) None end ends starts fit l la a = tt
  statement_fine (Gate leaf) (Some p) end ends starts fit l la a = gate_fine leaf p end fit.0 fit.1 l a
  statement_fine (Reset qubit) None end ends starts fit l la a = tt
  statement_fine (Reset qubit) (Some p) end ends starts fit l la a = reset_fine qubit p end l a
  statement_fine (Measure qubit into) None end ends starts fit l la a = tt
  statement_fine (Measure qubit None) (Some p) end ends starts fit l la a = drop_fine qubit p end l a
  statement_fine (Measure qubit (Some c)) (Some p) end ends starts fit l la a = read_fine qubit c p end fit.1 l a
  statement_fine (If test a b) None end ends starts fit l la ag = tt
  statement_fine (If test a b) (Some p) end ends starts fit l la ag =
      let both = merge_fine l.2 l.3 end l.7 ag in
      branch_fine test p l.0 l.1 fit.0 l.4 (statement_fine a (Some l.0) l.2 ends starts fit.1 l.5 la both.0) (statement_fine b (Some l.1) l.3 ends starts fit.2 l.6 la both.1)
  statement_fine (Block a) None end ends starts fit l la ag = tt
  statement_fine (Block a) (Some p) end ends starts fit l la ag = statement_fine a (Some p) l.0 (end ∷ ends) starts fit l.1 (more_fine end ends ag la) (join_fine l.0 end l.2 ag)
  statement_fine (Loop a) None end ends starts fit l la ag = tt
  statement_fine (Loop a) (Some p) end ends starts fit l la ag =
      jump_fine p l.0 l.2.goes (λ lt. statement_fine a (Some l.0) l.1 (end ∷ ends) (l.0 ∷ starts) fit l.3 (more_fine end ends ag la) (join_fine l.1 end l.4 ag))
  statement_fine (Leave j) None end ends starts fit l la a = tt
  statement_fine (Leave j) (Some p) end ends starts fit l la a = jump_fine p l.0 l.2.goes (λ lt. la.by j l.0 l.1)
  statement_fine (Again j) None end ends starts fit l la a = tt
  statement_fine (Again j) (Some p) end ends starts fit l la a = jump_fine p l.0 l.2.goes (λ lt. let le = l.2.not_later in absurd (omega (arith, lt, le)))

  -- ---- the program

  records_fine : (outputs : List Output) (values : List Operand) (K : State → Type 0) (s : State) (cells : Cells) → AllByRecursion (OutputFits core) outputs → AllByRecursion IsHeldOutput outputs → HoldsCells s core.cells values cells → K s → Runs (length m.labels) (map (record_call values) outputs) K s
  records_fine [] values K s cells fit held h k = k
  records_fine (o ∷ outputs) values K s cells fit held h k =
      subst (λ (e : Effect). GoesOn (after_effect e) (Runs (length m.labels) (map (record_call values) outputs) K)) (sym (ap (λ (labels : List (List ℕ)). effect_of (length labels) s (record_call values o)) labelled ∙ record_effect core values cells s o fit.0 held.0 h))
      (records_fine outputs values K s cells fit.1 held.1 h k)

  return_fine : (end : Option Place) → AllByRecursion (OutputFits core) core.outputs → AllByRecursion IsHeldOutput core.outputs → Returns core.outputs end → FineIf end
  return_fine None fit held r = tt
  return_fine (Some p) fit held r = record {
    by = λ n s cells h.
        subst (λ (b : List Instr). Runs (length m.labels) b (Ends m n p.block p.last) s) (sym r.0)
        (records_fine core.outputs p.values (Ends m n p.block p.last) s cells fit held h.holds (subst (λ (z : Last). Ends m n p.block z s) (sym r.1) (at n s)));
  }
    where
      at : (n : ℕ) (s : State) → Ends m n p.block (Return (pos 0)) s
      at zero s = tt
      at (suc n) s = (tt, (λ x t e is. absurd (cc e)))

  -- from the first block
  pub graph_fine : IsFit core (program_of core) → AllByRecursion (OutputFits core) core.outputs → AllByRecursion IsHeldOutput core.outputs → (g : IsGraphOf core m) → (n : ℕ) → Runs (length m.labels) g.starts.target.body (Ends m n 0 g.starts.target.last) first_state
  graph_fine fit outs held g n =
      let st = g.starts in
      let a = statement_fine (program_of core) (Some g.start) g.end [] [] fit g.low (record { by = λ k p e. absurd (cc e) }) (return_fine g.end outs held g.returns) in
      let cells = map first_value core.cells in
      let holds : HoldsAll core.cells first_state g.start.values cells = subst (λ v. HoldsAll core.cells first_state v cells) (sym st.values) (first_holds core.cells first_state) in
      subst (λ (b : List Instr). Runs (length m.labels) b (Ends m n 0 st.target.last) first_state) (sym st.body)
      (subst (λ (z : Last). Runs (length m.labels) g.start.rest (Ends m n 0 z) first_state) (sym st.last)
      (subst (λ (k : ℕ). Runs (length m.labels) g.start.rest (Ends m n k g.start.last) first_state) st.block (a.by n first_state cells holds)))
