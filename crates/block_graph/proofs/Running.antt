-- A module that is a core's program does what the core does.
use Rattle.std.proofs.Common.{◌≡◌, ℕ, zero, suc, ◌+◌, ◌*◌, ◌-◌, ◌<◌, ◌≤◌, nat_eq, if◌then◌else◌, Bool, true, false, All, List, [], ◌∷◌, ◌++◌, inl, inr, ⊎_elim, length, map, pos, Option, Some, None, refl, sym, ap, ◌∙◌, subst, arith, append-nil, lt-ltb, le-ltb, eq-eqb, eqb-true}
use Rattle.std.specs.Prelude.{slice_get, slice_set}
use Rattle.std.specs.List.{AllByRecursion}
use Rattle.std.proofs.lemmas.Bool.{cases_lt}
use Rattle.std.proofs.lemmas.Option.{slice_get_within}
use Rattle.std.proofs.lemmas.List.Elements.{recursion_from_All}
use Rattle.qq_base.specs.declared.run.QubitId.{QubitId}
use Rattle.qq_base.specs.declared.run.Event.TheVariants.{Reset as ResetEvent, Measure as MeasureEvent}
use Rattle.qq_base.specs.Seen.{event_then, record_then, with_outcome, with_turn}
use Rattle.qir_module.specs.declared.instruction.Operand.{Operand}
use Rattle.qir_module.specs.declared.instruction.Operand.TheVariants.{Register}
use Rattle.qir_module.specs.declared.instruction.Instr.{Instr}
use Rattle.qir_module.specs.declared.instruction.Last.{Last}
use Rattle.qir_module.specs.declared.instruction.Last.TheVariants.{Return}
use Rattle.qir_module.specs.declared.block.Block.{Block as ModuleBlock}
use Rattle.qir_module.specs.Module.{Module}
use Rattle.qir_module.specs.Numbered.{CountsFrom}
use Rattle.qir_module.specs.Machine.{Holds as HoldsTruth, State, first_state, with_register, with_result, truth_in, Effect, truth_read, effect_of, Later, behind, branched, run_rest, take_phis, after_phis, place_from, place_of, jumped, jump_to, run_block, run_from, machine_run}
use Rattle.core_ir.specs.declared.expression.CellKind.TheVariants.{Truth as TruthCell}
use Rattle.core_ir.specs.declared.statement.LeafCall.{LeafCall}
use Rattle.core_ir.specs.declared.program.Output.{Output}
use Rattle.core_ir.specs.Core.{Core}
use Rattle.core_ir.specs.Tree.{Stmt, Skip, Seq, Assign, Gate, Reset, Measure, If, Block, Loop, Leave, Again, program_of}
use Rattle.core_ir.specs.Run.{Cells, Rest, first_value, value_at, truth_in_value, assigned_cells, leaf_event, level, again, meaning, recorded, record_of, core_run}
use Rattle.core_ir.specs.WellFormed.{kind_at, PairFits, LeafFits, OutputFits}
use Rattle.cell_operands.specs.Operands.{HoldsCells}
use Rattle.expr_lower.specs.Lowered.{HoldValues, StraightRuns}
use Rattle.block_graph.specs.Bounds.{IsHeldLeaf, IsHeldOutput}
use Rattle.block_graph.specs.Fitting.{IsFit}
use Rattle.block_graph.specs.Lowering.{first_operand, gate_call, record_call}
use Rattle.block_graph.specs.Stretch.{Place, Leads, Forward, Back, Joins, Merges, AssignLow, GateLow, ResetLow, DropLow, ReadLow, Branches, end_at, start_at, Low, Returns, IsGraphOf}
use Rattle.block_graph.proofs.Holding.{HoldsAll, truth_read_as, truth_here, result_holds, set_holds, store_holds, first_holds}
use Rattle.block_graph.proofs.Calling.{gate_effect, record_effect}

-- ---- blocks are named by their places

abbrev pub names_of : List ModuleBlock → List ℕ
names_of blocks = map (λ (b : ModuleBlock). b.name) blocks

pub block_name : (j : ℕ) (blocks : List ModuleBlock) (i : ℕ) (b : ModuleBlock) → CountsFrom j (names_of blocks) → slice_get blocks i ≡ Some b → b.name ≡ j + i
block_name j [] i b c e = absurd (cc e)
block_name j (x ∷ blocks) zero b c e = let same : x ≡ b = cc e in let z : j ≡ j + 0 = omega arith in ap (λ (y : ModuleBlock). y.name) (sym same) ∙ c.0 ∙ z
block_name j (x ∷ blocks) (suc i) b c e = let z : suc j + i ≡ j + suc i = omega arith in block_name (suc j) blocks i b c.1 e ∙ z

pub block_place : (j : ℕ) (blocks : List ModuleBlock) (name : ℕ) → CountsFrom j (names_of blocks) → j ≤ name → name < j + length blocks → place_from j blocks name ≡ Some name
block_place j [] name c le lt = absurd (omega (arith, le, lt))
block_place j (b ∷ blocks) name c le lt = at (nat_eq b.name name) refl (λ later. block_place (suc j) blocks name c.1 later (omega (arith, lt)))
  where
    open_here : nat_eq b.name name ≡ true → j ≡ name
    open_here e = sym c.0 ∙ eqb-true b.name name e

    later : (j ≡ name → ⊥) → suc j ≤ name
    later ne = ⊎_elim (λ h. h) (λ h. absurd (ne (omega (arith, h, le)))) (cases_lt j name)

    at : (here : Bool) → nat_eq b.name name ≡ here → (suc j ≤ name → place_from (suc j) blocks name ≡ Some name) → (if here then Some j else place_from (suc j) blocks name) ≡ Some name
    at true e next = ap Some (open_here e)
    at false e next = next (later (λ h. absurd (cc (e, eq-eqb b.name name (c.0 ∙ h)))))

module _ (core : Core) (m : Module) (named : CountsFrom 0 (names_of m.blocks)) (runs : StraightRuns) (labelled : m.labels ≡ core.labels) where
  -- what a jump from a place does, where at most so many blocks are entered
  abbrev jump_of : ℕ → ℕ → ℕ → Later
  jump_of bound place name = jump_to (run_from m bound (Some place)) place (place_of m.blocks name)

  abbrev rest_of : ℕ → Place → Later
  rest_of bound p = run_rest (length m.labels) (jump_of bound p.block) p.rest p.last

  -- from here the machine does what remains of the core's run, at up to t turns
  record Agrees (t : ℕ) (p : Place) (k : Rest) : Type 0 where
    by : (n : ℕ) → n ≤ t → p.block < length m.blocks → (f : ℕ) → n * length m.blocks + (length m.blocks - p.block) ≤ suc f → (s : State) (cells : Cells) (os : List Bool) → HoldsAll core.cells s p.values cells → rest_of f p s os n ≡ k cells os n

  abbrev AgreesIf : ℕ → Option Place → Rest → Type 0
  AgreesIf t None k = Unit {0}
  AgreesIf t (Some p) k = Agrees t p k

  -- the same at the start of a loop, behind a jump back
  record AgreesBack (t : ℕ) (p : Place) (k : Rest) : Type 0 where
    by : (n : ℕ) → n ≤ t → (f : ℕ) → n * length m.blocks ≤ suc f → (s : State) (cells : Cells) (os : List Bool) → HoldsAll core.cells s p.values cells → with_turn n (rest_of f p s os) ≡ k cells os n

  record EndsAgree (t : ℕ) (ends : List (Option Place)) (ks : List Rest) : Type 0 where
    by : (k : ℕ) (p : Place) → end_at ends k ≡ Some p → Agrees t p (level ks k)

  record StartsAgree (t : ℕ) (starts : List Place) (ks : List Rest) : Type 0 where
    by : (k : ℕ) (p : Place) → start_at starts k ≡ Some p → AgreesBack t p (level ks k)

  agrees_less : (t u : ℕ) (p : Place) (k : Rest) → u ≤ t → Agrees t p k → Agrees u p k
  agrees_less t u p k le a = record { by = λ n h. a.by n (omega (arith, h, le)) }

  agrees_if_less : (t u : ℕ) (p : Option Place) (k : Rest) → u ≤ t → AgreesIf t p k → AgreesIf u p k
  agrees_if_less t u None k le a = tt
  agrees_if_less t u (Some p) k le a = agrees_less t u p k le a

  ends_less : (t u : ℕ) (ends : List (Option Place)) (ks : List Rest) → u ≤ t → EndsAgree t ends ks → EndsAgree u ends ks
  ends_less t u ends ks le a = record { by = λ k p e. agrees_less t u p (level ks k) le (a.by k p e) }

  starts_less : (t u : ℕ) (starts : List Place) (ks : List Rest) → u ≤ t → StartsAgree t starts ks → StartsAgree u starts ks
  starts_less t u starts ks le a = record { by = λ k p e. record { by = λ n h. (a.by k p e).by n (omega (arith, h, le)) } }

  ends_more : (t : ℕ) (end : Option Place) (ends : List (Option Place)) (r : Rest) (ks : List Rest) → AgreesIf t end r → EndsAgree t ends ks → EndsAgree t (end ∷ ends) (r ∷ ks)
  ends_more t end ends r ks a b = record { by = at }
    where
      at : (k : ℕ) (p : Place) → end_at (end ∷ ends) k ≡ Some p → Agrees t p (level (r ∷ ks) k)
      at zero p e = subst (λ o. AgreesIf t o r) e a
      at (suc k) p e = b.by k p e

  starts_more : (t : ℕ) (start : Place) (starts : List Place) (r : Rest) (ks : List Rest) → AgreesBack t start r → StartsAgree t starts ks → StartsAgree t (start ∷ starts) (r ∷ ks)
  starts_more t start starts r ks a b = record { by = at }
    where
      at : (k : ℕ) (p : Place) → start_at (start ∷ starts) k ≡ Some p → AgreesBack t p (level (r ∷ ks) k)
      at zero p e = let same : start ≡ p = cc e in subst (λ q. AgreesBack t q r) same a
      at (suc k) p e = b.by k p e

  -- ---- jumps

  -- an entered block, behind its phis
  entered : (f from : ℕ) (before : List Operand) (to : Place) (s : State) (cells : Cells) (os : List Bool) (n : ℕ) → Leads core.cells m from before to → HoldsAll core.cells s before cells
      → (s' : State) × (run_from m (suc f) (Some from) to.block s os n ≡ rest_of f to s' os n) × HoldsAll core.cells s' to.values cells
  entered f from before to s cells os n l h =
      let c = l.carries.by s cells h.holds in
      let name : l.target.name ≡ to.block = block_name 0 m.blocks to.block l.target named l.found ∙ zero_more to.block in (
        c.0,
        ap (λ (b : Option ModuleBlock). run_block m (run_from m f) (Some from) to.block b s os n) l.found
            ∙ ap (λ (r : Option State). after_phis r (λ s'. run_rest (length m.labels) (λ name. jump_to (run_from m f (Some l.target.name)) to.block (place_of m.blocks name)) l.target.body l.target.last s' os n)) c.1
            ∙ ap (λ (q : ℕ). run_rest (length m.labels) (λ name. jump_to (run_from m f (Some q)) to.block (place_of m.blocks name)) l.target.body l.target.last c.0 os n) name
            ∙ ap (λ (b : List Instr). run_rest (length m.labels) (jump_of f to.block) b l.target.last c.0 os n) l.body
            ∙ ap (λ (b : Last). run_rest (length m.labels) (jump_of f to.block) to.rest b c.0 os n) l.last,
        record { each_operand = l.long; each_value = h.each_value; holds = c.2 },
      )
    where
      zero_more : (n : ℕ) → 0 + n ≡ n
      zero_more n = omega arith

  placed : (from : ℕ) (before : List Operand) (to : Place) → Leads core.cells m from before to → place_of m.blocks to.block ≡ Some to.block
  placed from before to l =
      let within = slice_get_within m.blocks to.block l.target l.found in
      block_place 0 m.blocks to.block named (omega arith) (omega (arith, within))

  -- a jump forward
  jump_forward : (t f from : ℕ) (before : List Operand) (to : Place) (k : Rest) (n : ℕ) → n ≤ t → from < to.block → n * length m.blocks + (length m.blocks - from) ≤ suc f → (s : State) (cells : Cells) (os : List Bool) → Leads core.cells m from before to → Agrees t to k → HoldsAll core.cells s before cells
      → jump_of f from to.block s os n ≡ k cells os n
  jump_forward t zero from before to k n le lt room s cells os l a h = let within = slice_get_within m.blocks to.block l.target l.found in absurd (omega (arith, within, lt, room))
  jump_forward t (suc f) from before to k n le lt room s cells os l a h =
      let within = slice_get_within m.blocks to.block l.target l.found in
      let c = entered f from before to s cells os n l h in
      ap (λ (p : Option ℕ). jump_to (run_from m (suc f) (Some from)) from p s os n) (placed from before to l)
      ∙ ap (λ (b : Bool). jumped b (run_from m (suc f) (Some from) to.block) s os n) (lt-ltb from to.block lt) ∙ c.1 ∙ a.by n le within f (omega (arith, within, lt, room)) c.0 cells os c.2

  forward_agrees : (t : ℕ) (p to : Place) (k : Rest) → Forward core.cells m p to → Agrees t to k → Agrees t p k
  forward_agrees t p to k fw a = record {
    by = λ n le pin f room s cells os h.
        ap (λ (b : List Instr). run_rest (length m.labels) (jump_of f p.block) b p.last s os n) fw.goes.rest
        ∙ ap (λ (b : Last). run_rest (length m.labels) (jump_of f p.block) [] b s os n) fw.goes.last
        ∙ jump_forward t f p.block p.values to k n le fw.later room s cells os fw.goes.leads a h;
  }

  join_agrees : (t : ℕ) (p join : Option Place) (k : Rest) → Joins core.cells m p join → AgreesIf t join k → AgreesIf t p k
  join_agrees t None join k j a = tt
  join_agrees t (Some p) None k j a = absurd j
  join_agrees t (Some p) (Some to) k j a = forward_agrees t p to k j a

  merge_agrees : (t : ℕ) (first second end : Option Place) (k : Rest) → Merges core.cells m first second end → AgreesIf t end k → AgreesIf t first k × AgreesIf t second k
  merge_agrees t first second end k (inl j) a = (join_agrees t first end k j.0 a, join_agrees t second end k j.1 a)
  merge_agrees t first second end k (inr (inl e)) a = (subst (λ o. AgreesIf t o k) (sym e.0) tt, subst (λ o. AgreesIf t o k) e.1 a)
  merge_agrees t first second end k (inr (inr e)) a = (subst (λ o. AgreesIf t o k) e.1 a, subst (λ o. AgreesIf t o k) (sym e.0) tt)

  -- a jump back
  jump_back : (t f from : ℕ) (before : List Operand) (to : Place) (k : Rest) (n : ℕ) → n ≤ t → to.block ≤ from → from < length m.blocks → n * length m.blocks + (length m.blocks - from) ≤ suc f → (s : State) (cells : Cells) (os : List Bool) → Leads core.cells m from before to → AgreesBack t to k → HoldsAll core.cells s before cells
      → with_turn n (run_from m f (Some from) to.block s os) ≡ k cells os n
  jump_back t f from before to k zero lt le pin room s cells os l a h =
      let c = l.carries.by s cells h.holds in
      a.by zero lt 0 (omega arith) c.0 cells os (record { each_operand = l.long; each_value = h.each_value; holds = c.2 })
  jump_back t zero from before to k (suc n) lt le pin room s cells os l a h = absurd (omega (arith, pin, room))
  jump_back t (suc f) from before to k (suc n) lt le pin room s cells os l a h =
      let c = entered f from before to s cells os n l h in
      c.1 ∙ a.by (suc n) lt f (omega (arith, pin, room)) c.0 cells os c.2

  back_agrees : (t : ℕ) (p to : Place) (k : Rest) → Back core.cells m p to → AgreesBack t to k → Agrees t p k
  back_agrees t p to k bk a = record {
    by = λ n le pin f room s cells os h.
        ap (λ (b : List Instr). run_rest (length m.labels) (jump_of f p.block) b p.last s os n) bk.goes.rest
        ∙ ap (λ (b : Last). run_rest (length m.labels) (jump_of f p.block) [] b s os n) bk.goes.last
        ∙ ap (λ (q : Option ℕ). jump_to (run_from m f (Some p.block)) p.block q s os n) (placed p.block p.values to bk.goes.leads)
        ∙ ap (λ (b : Bool). jumped b (run_from m f (Some p.block) to.block) s os n) (le-ltb p.block to.block bk.not_later)
        ∙ jump_back t f p.block p.values to k n le bk.not_later pin room s cells os bk.goes.leads a h;
  }

  -- the start of a loop does its turns
  loop_back : (t : ℕ) (head : Place) (body : Rest → Rest) → head.block < length m.blocks → ((u : ℕ) (r : Rest) → u ≤ t → AgreesBack u head r → Agrees u head (body r)) → (b u : ℕ) → u ≤ b → u ≤ t → AgreesBack u head (again body b)
  loop_back t head body within each zero u le lt = record { by = at }
    where
      at : (n : ℕ) → n ≤ u → (f : ℕ) → n * length m.blocks ≤ suc f → (s : State) (cells : Cells) (os : List Bool) → HoldsAll core.cells s head.values cells → with_turn n (rest_of f head s os) ≡ again body zero cells os n
      at zero h f room s cells os holds = refl
      at (suc n) h f room s cells os holds = absurd (omega (arith, h, le))
  loop_back t head body within each (suc b) u le lt = record { by = at (λ n l. loop_back t head body within each b n l) }
    where
      at : ((n : ℕ) → n ≤ b → n ≤ t → AgreesBack n head (again body b)) → (n : ℕ) → n ≤ u → (f : ℕ) → n * length m.blocks ≤ suc f → (s : State) (cells : Cells) (os : List Bool) → HoldsAll core.cells s head.values cells → with_turn n (rest_of f head s os) ≡ again body (suc b) cells os n
      at less zero h f room s cells os holds = refl
      at less (suc n) h f room s cells os holds =
          let fewer : n ≤ b = omega (arith, h, le) in
          let fewer' : n ≤ t = omega (arith, h, lt) in
          let here = each n (again body b) fewer' (less n fewer fewer') in
          here.by n (omega arith) within f (omega (arith, within, room)) s cells os holds

  -- ---- straight statements

  assign_agrees : (t : ℕ) (pairs : List (ℕ × ℕ)) (p : Place) (end : Option Place) (k : Rest) → All (PairFits core) pairs → AssignLow core pairs p end → AgreesIf t end k → Agrees t p (λ cells os n. k (assigned_cells core.exprs pairs cells cells) os n)
  assign_agrees t pairs p end k fit l a = record {
    by = λ n le pin f room s cells os h.
        let r = l.computes.by (length m.labels) s cells h.holds in
        let next = subst (λ o. AgreesIf t o k) l.ends a in
        let held : HoldsAll core.cells r.0 p.values cells = record { each_operand = h.each_operand; each_value = h.each_value; holds = r.2 } in
        ap (λ (b : List Instr). run_rest (length m.labels) (jump_of f p.block) b p.last s os n) l.is
        ∙ runs (length m.labels) (jump_of f p.block) l.code l.rest p.last s r.0 os n r.1
        ∙ next.by n le pin f room r.0 (assigned_cells core.exprs pairs cells cells) os (store_holds core pairs l.operands p.values cells cells r.0 (recursion_from_All (PairFits core) pairs fit) r.3 held);
  }

  gate_agrees : (t : ℕ) (leaf : LeafCall) (p : Place) (end : Option Place) (k : Rest) → LeafFits core leaf → IsHeldLeaf leaf → GateLow core leaf p end → AgreesIf t end k → Agrees t p (λ cells os n. event_then (leaf_event core.exprs cells leaf) (k cells os n))
  gate_agrees t leaf p end k fit held l a = record {
    by = λ n le pin f room s cells os h.
        let r = l.computes.by (length m.labels) s cells h.holds in
        let next = subst (λ o. AgreesIf t o k) l.ends a in
        let here : HoldsAll core.cells r.0 p.values cells = record { each_operand = h.each_operand; each_value = h.each_value; holds = r.2 } in
        ap (λ (b : List Instr). run_rest (length m.labels) (jump_of f p.block) b p.last s os n) l.is
        ∙ runs (length m.labels) (jump_of f p.block) l.code (gate_call leaf l.operands ∷ l.rest) p.last s r.0 os n r.1
        ∙ ap (λ (e : Effect). behind e (run_rest (length m.labels) (jump_of f p.block) l.rest p.last) os n) (gate_effect core leaf l.operands r.0 cells (length m.labels) fit held r.3)
        ∙ ap (event_then (leaf_event core.exprs cells leaf)) (next.by n le pin f room r.0 cells os here);
  }

  reset_agrees : (t : ℕ) (qubit : QubitId) (p : Place) (end : Option Place) (k : Rest) → ResetLow qubit p end → AgreesIf t end k → Agrees t p (λ cells os n. event_then (ResetEvent qubit) (k cells os n))
  reset_agrees t qubit p end k l a = record {
    by = λ n le pin f room s cells os h.
        let next = subst (λ o. AgreesIf t o k) l.ends a in
        ap (λ (b : List Instr). run_rest (length m.labels) (jump_of f p.block) b p.last s os n) l.is
        ∙ ap (event_then (ResetEvent qubit)) (next.by n le pin f room s cells os h);
  }

  drop_agrees : (t : ℕ) (qubit : QubitId) (p : Place) (end : Option Place) (k : Rest) → DropLow qubit p end → AgreesIf t end k → Agrees t p (λ cells os n. with_outcome os (λ outcome others. event_then (MeasureEvent qubit outcome) (k cells others n)))
  drop_agrees t qubit p end k l a = record { by = at }
    where
      next : Agrees t (record p { rest = l.rest }) k
      next = subst (λ o. AgreesIf t o k) l.ends a

      at : (n : ℕ) → n ≤ t → p.block < length m.blocks → (f : ℕ) → n * length m.blocks + (length m.blocks - p.block) ≤ suc f → (s : State) (cells : Cells) (os : List Bool) → HoldsAll core.cells s p.values cells → rest_of f p s os n ≡ with_outcome os (λ outcome others. event_then (MeasureEvent qubit outcome) (k cells others n))
      at n le pin f room s cells [] h = ap (λ (b : List Instr). run_rest (length m.labels) (jump_of f p.block) b p.last s [] n) l.is
      at n le pin f room s cells (o ∷ os) h =
          ap (λ (b : List Instr). run_rest (length m.labels) (jump_of f p.block) b p.last s (o ∷ os) n) l.is
          ∙ ap (event_then (MeasureEvent qubit o)) (next.by n le pin f room (with_result s l.result o) cells os (record { each_operand = h.each_operand; each_value = h.each_value; holds = result_holds core.cells s l.result o p.values cells h.holds }))

  read_agrees : (t : ℕ) (qubit : QubitId) (c : ℕ) (p : Place) (end : Option Place) (k : Rest) → slice_get core.cells c ≡ Some TruthCell → ReadLow core qubit c p end → AgreesIf t end k → Agrees t p (λ cells os n. with_outcome os (λ outcome others. event_then (MeasureEvent qubit outcome) (k (slice_set cells c (HoldsTruth outcome)) others n)))
  read_agrees t qubit c p end k fit l a = record { by = at }
    where
      next : Agrees t (record p { rest = l.rest; values = slice_set p.values c (Register l.register) }) k
      next = subst (λ o. AgreesIf t o k) l.ends a

      result_read : (s : State) (r : ℕ) (b : Bool) → (with_result s r b).results r ≡ Some b
      result_read s r b = ap (λ (same : Bool). if same then Some b else s.results r) (eq-eqb r r refl)

      at : (n : ℕ) → n ≤ t → p.block < length m.blocks → (f : ℕ) → n * length m.blocks + (length m.blocks - p.block) ≤ suc f → (s : State) (cells : Cells) (os : List Bool) → HoldsAll core.cells s p.values cells → rest_of f p s os n ≡ with_outcome os (λ outcome others. event_then (MeasureEvent qubit outcome) (k (slice_set cells c (HoldsTruth outcome)) others n))
      at n le pin f room s cells [] h = ap (λ (b : List Instr). run_rest (length m.labels) (jump_of f p.block) b p.last s [] n) l.is
      at n le pin f room s cells (o ∷ os) h =
          let mid = with_result s l.result o in
          let new = with_register mid l.register (HoldsTruth o) in
          let kept = l.fresh.by mid cells (HoldsTruth o) (result_holds core.cells s l.result o p.values cells h.holds) in
          let held : HoldsAll core.cells new p.values cells = record { each_operand = h.each_operand; each_value = h.each_value; holds = kept } in
          ap (λ (b : List Instr). run_rest (length m.labels) (jump_of f p.block) b p.last s (o ∷ os) n) l.is
          ∙ ap (event_then (MeasureEvent qubit o)) (ap (λ (r : Option Bool). behind (truth_read mid l.register r) (run_rest (length m.labels) (jump_of f p.block) l.rest p.last) os n) (result_read s l.result o)
          ∙ next.by n le pin f room new (slice_set cells c (HoldsTruth o)) os (set_holds core.cells new p.values cells c (Register l.register) (HoldsTruth o) TruthCell held fit (truth_here mid l.register o)))

  -- ---- choices and loops

  -- the operand of one expression
  first_truth : (s : State) (cells : Cells) (test : ℕ) (operands : List Operand) → kind_at core test ≡ Some TruthCell → HoldValues s core cells (test ∷ []) operands → truth_in s (first_operand operands) ≡ Some (truth_in_value (value_at core.exprs test cells))
  first_truth s cells test [] fit held = absurd held
  first_truth s cells test (o ∷ operands) fit held = truth_read_as (truth_in s o) (value_at core.exprs test cells) (held.0 TruthCell fit)

  if_agrees : (t : ℕ) (test : ℕ) (p yes_at no_at : Place) (ky kn : Rest) → kind_at core test ≡ Some TruthCell → Branches core m test p yes_at no_at → Agrees t yes_at ky → Agrees t no_at kn → Agrees t p (λ cells os n. if truth_in_value (value_at core.exprs test cells) then ky cells os n else kn cells os n)
  if_agrees t test p yes_at no_at ky kn fit l ay an = record { by = at }
    where
      way : (f n : ℕ) (s : State) (cells : Cells) (os : List Bool) (b : Bool) → jump_of f p.block yes_at.block s os n ≡ ky cells os n → jump_of f p.block no_at.block s os n ≡ kn cells os n → branched (Some b) (jump_of f p.block yes_at.block) (jump_of f p.block no_at.block) s os n ≡ (if b then ky cells os n else kn cells os n)
      way f n s cells os true y z = y
      way f n s cells os false y z = z

      at : (n : ℕ) → n ≤ t → p.block < length m.blocks → (f : ℕ) → n * length m.blocks + (length m.blocks - p.block) ≤ suc f → (s : State) (cells : Cells) (os : List Bool) → HoldsAll core.cells s p.values cells → rest_of f p s os n ≡ (if truth_in_value (value_at core.exprs test cells) then ky cells os n else kn cells os n)
      at n le pin f room s cells os h =
          let j = jump_of f p.block in
          let r = l.computes.by (length m.labels) s cells h.holds in
          let held : HoldsAll core.cells r.0 p.values cells = record { each_operand = h.each_operand; each_value = h.each_value; holds = r.2 } in
          let whole : p.rest ≡ l.code ++ [] = l.is ∙ sym (append-nil l.code) in
          let to_yes = jump_forward t f p.block p.values yes_at ky n le l.later_yes room r.0 cells os l.leads_yes ay held in
          let to_no = jump_forward t f p.block p.values no_at kn n le l.later_no room r.0 cells os l.leads_no an held in
          ap (λ (b : List Instr). run_rest (length m.labels) j b p.last s os n) whole
          ∙ runs (length m.labels) j l.code [] p.last s r.0 os n r.1
          ∙ ap (λ (b : Last). run_rest (length m.labels) j [] b r.0 os n) l.last
          ∙ ap (λ (b : Option Bool). branched b (j yes_at.block) (j no_at.block) r.0 os n) (first_truth r.0 cells test l.operands fit r.3)
          ∙ way f n r.0 cells os (truth_in_value (value_at core.exprs test cells)) to_yes to_no

  loop_agrees : (t : ℕ) (p head : Place) (body : Rest → Rest) → Forward core.cells m p head → ((u : ℕ) (r : Rest) → u ≤ t → AgreesBack u head r → Agrees u head (body r)) → Agrees t p (λ cells os n. body (again body n) cells os n)
  loop_agrees t p head body fw turn =
      let within = slice_get_within m.blocks head.block fw.goes.leads.target fw.goes.leads.found in
      forward_agrees t p head (λ cells os n. body (again body n) cells os n) fw (record { by = λ n le. (turn n (again body n) le (loop_back t head body within turn n n (omega arith) le)).by n (omega arith) })

  -- ---- statements

  sound : (s : Stmt) (t : ℕ) (start end : Option Place) (ends : List (Option Place)) (starts : List Place) (eks sks : List Rest) (k : Rest) → IsFit core s → Low core m s start end ends starts → EndsAgree t ends eks → StartsAgree t starts sks → AgreesIf t end k → AgreesIf t start (meaning core.exprs s eks sks k)
  sound Skip t start end ends starts eks sks k fit l la ha a = subst (λ o. AgreesIf t o k) l a
  sound (Seq a b) t start end ends starts eks sks k fit l la ha ag =
      sound a t start l.0 ends starts eks sks (meaning core.exprs b eks sks k) fit.0 l.1 la ha (sound b t l.0 end ends starts eks sks k fit.1 l.2 la ha ag)
  sound (Assign pairs) t None end ends starts eks sks k fit l la ha a = tt
  sound (Assign pairs) t (Some p) end ends starts eks sks k fit l la ha a = assign_agrees t pairs p end k fit l a
  sound (Gate leaf) t None end ends starts eks sks k fit l la ha a = tt
  sound (Gate leaf) t (Some p) end ends starts eks sks k fit l la ha a = gate_agrees t leaf p end k fit.0 fit.1 l a
  sound (Reset qubit) t None end ends starts eks sks k fit l la ha a = tt
  sound (Reset qubit) t (Some p) end ends starts eks sks k fit l la ha a = reset_agrees t qubit p end k l a
  sound (Measure qubit into) t None end ends starts eks sks k fit l la ha a = tt
  sound (Measure qubit None) t (Some p) end ends starts eks sks k fit l la ha a = drop_agrees t qubit p end k l a
  sound (Measure qubit (Some c)) t (Some p) end ends starts eks sks k fit l la ha a = read_agrees t qubit c p end k fit.1 l a
  sound (If test a b) t None end ends starts eks sks k fit l la ha ag = tt
  sound (If test a b) t (Some p) end ends starts eks sks k fit l la ha ag =
      let both = merge_agrees t l.2 l.3 end k l.7 ag in
      if_agrees t test p l.0 l.1 (meaning core.exprs a eks sks k) (meaning core.exprs b eks sks k) fit.0 l.4 (sound a t (Some l.0) l.2 ends starts eks sks k fit.1 l.5 la ha both.0) (sound b t (Some l.1) l.3 ends starts eks sks k fit.2 l.6 la ha both.1)
  sound (Block a) t None end ends starts eks sks k fit l la ha ag = tt
  sound (Block a) t (Some p) end ends starts eks sks k fit l la ha ag =
      sound a t (Some p) l.0 (end ∷ ends) starts (k ∷ eks) sks k fit l.1 (ends_more t end ends k eks ag la) ha (join_agrees t l.0 end k l.2 ag)
  sound (Loop a) t None end ends starts eks sks k fit l la ha ag = tt
  sound (Loop a) t (Some p) end ends starts eks sks k fit l la ha ag =
      loop_agrees t p l.0 (λ r. meaning core.exprs a (k ∷ eks) (r ∷ sks) k) l.2 (λ u r le back. sound a u (Some l.0) l.1 (end ∷ ends) (l.0 ∷ starts) (k ∷ eks) (r ∷ sks) k fit l.3 (ends_more u end ends k eks (agrees_if_less t u end k le ag) (ends_less t u ends eks le la)) (starts_more u l.0 starts r sks back (starts_less t u starts sks le ha)) (join_agrees u l.1 end k l.4 (agrees_if_less t u end k le ag)))
  sound (Leave j) t None end ends starts eks sks k fit l la ha a = tt
  sound (Leave j) t (Some p) end ends starts eks sks k fit l la ha a = forward_agrees t p l.0 (level eks j) l.2 (la.by j l.0 l.1)
  sound (Again j) t None end ends starts eks sks k fit l la ha a = tt
  sound (Again j) t (Some p) end ends starts eks sks k fit l la ha a = back_agrees t p l.0 (level sks j) l.2 (ha.by j l.0 l.1)

  -- ---- the program

  records_agree : (outputs : List Output) (jump : ℕ → Later) (values : List Operand) (s : State) (cells : Cells) (os : List Bool) (n : ℕ) → AllByRecursion (OutputFits core) outputs → AllByRecursion IsHeldOutput outputs → HoldsCells s core.cells values cells → run_rest (length m.labels) jump (map (record_call values) outputs) (Return (pos 0)) s os n ≡ recorded outputs cells os n
  records_agree [] jump values s cells os n fit held h = refl
  records_agree (o ∷ outputs) jump values s cells os n fit held h =
      ap (λ (labels : List (List ℕ)). behind (effect_of (length labels) s (record_call values o)) (run_rest (length m.labels) jump (map (record_call values) outputs) (Return (pos 0))) os n) labelled
      ∙ ap (λ (e : Effect). behind e (run_rest (length m.labels) jump (map (record_call values) outputs) (Return (pos 0))) os n) (record_effect core values cells s o fit.0 held.0 h)
      ∙ ap (record_then (record_of o cells)) (records_agree outputs jump values s cells os n fit.1 held.1 h)

  return_agrees : (t : ℕ) (end : Option Place) → AllByRecursion (OutputFits core) core.outputs → AllByRecursion IsHeldOutput core.outputs → Returns core.outputs end → AgreesIf t end (recorded core.outputs)
  return_agrees t None fit held r = tt
  return_agrees t (Some p) fit held r = record {
    by = λ n le pin f room s cells os h.
        ap (λ (b : List Instr). run_rest (length m.labels) (jump_of f p.block) b p.last s os n) r.0
        ∙ ap (λ (b : Last). run_rest (length m.labels) (jump_of f p.block) (map (record_call p.values) core.outputs) b s os n) r.1
        ∙ records_agree core.outputs (jump_of f p.block) p.values s cells os n fit held h.holds;
  }

  no_ends : (t : ℕ) → EndsAgree t [] []
  no_ends t = record { by = λ k p e. absurd (cc e) }

  no_starts : (t : ℕ) → StartsAgree t [] []
  no_starts t = record { by = λ k p e. absurd (cc e) }

  -- with room for the first block
  run_same : (os : List Bool) (n f : ℕ) → f ≡ (n + 1) * length m.blocks → IsFit core (program_of core) → AllByRecursion (OutputFits core) core.outputs → AllByRecursion IsHeldOutput core.outputs → IsGraphOf core m → run_from m f None 0 first_state os n ≡ core_run core os n
  run_same os n zero e fit outs held g =
      let within = slice_get_within m.blocks 0 g.starts.target g.starts.found in
      absurd (omega (arith, within, e))
  run_same os n (suc f) e fit outs held g =
      let st = g.starts in
      let within = slice_get_within m.blocks 0 st.target st.found in
      let within' : g.start.block < length m.blocks = omega (arith, within, st.block) in
      let name : st.target.name ≡ 0 = block_name 0 m.blocks 0 st.target named st.found in
      let a = sound (program_of core) n (Some g.start) g.end [] [] [] [] (recorded core.outputs) fit g.low (no_ends n) (no_starts n) (return_agrees n g.end outs held g.returns) in
      let cells = map first_value core.cells in
      let holds : HoldsAll core.cells first_state g.start.values cells = subst (λ v. HoldsAll core.cells first_state v cells) (sym st.values) (first_holds core.cells first_state) in
      let there = a.by n (omega arith) within' f (omega (arith, within, st.block, e)) first_state cells os holds in
      ap (λ (b : Option ModuleBlock). run_block m (run_from m f) None 0 b first_state os n) st.found
      ∙ ap (λ ps. after_phis (take_phis ps None first_state) (λ s'. run_rest (length m.labels) (λ name. jump_to (run_from m f (Some st.target.name)) 0 (place_of m.blocks name)) st.target.body st.target.last s' os n)) st.phis
      ∙ ap (λ (q : ℕ). run_rest (length m.labels) (λ name. jump_to (run_from m f (Some q)) 0 (place_of m.blocks name)) st.target.body st.target.last first_state os n) name
      ∙ ap (λ (b : List Instr). run_rest (length m.labels) (jump_of f 0) b st.target.last first_state os n) st.body
      ∙ ap (λ (b : Last). run_rest (length m.labels) (jump_of f 0) g.start.rest b first_state os n) st.last
      ∙ ap (λ (q : ℕ). run_rest (length m.labels) (jump_of f q) g.start.rest g.start.last first_state os n) (sym st.block)
      ∙ there

  pub graph_runs : IsFit core (program_of core) → AllByRecursion (OutputFits core) core.outputs → AllByRecursion IsHeldOutput core.outputs → IsGraphOf core m → (os : List Bool) (n : ℕ) → machine_run m os n ≡ core_run core os n
  graph_runs fit outs held g os n = run_same os n ((n + 1) * length m.blocks) refl fit outs held g
