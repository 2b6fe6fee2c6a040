-- What is kept by each step of the lowering is kept by every statement.
use Rattle.std.proofs.Common.{◌≡◌, ◌≢◌, ℕ, suc, ◌+◌, ◌<◌, ◌≤◌, nat_lt, Bool, true, false, List, [], ◌∷◌, ◌++◌, map, length, get_or, Option, Some, None, refl, sym, ap, ◌∙◌, subst, arith, append-nil, length-append, length-set, get_or-set_same, get_or-set_other}
use Rattle.std.specs.Prelude.{slice_set, if◌then◌else◌}
use Rattle.std.specs.List.{flat_map, list_all}
use Rattle.std.proofs.lemmas.List.{get_or_at}
use Rattle.std.proofs.lemmas.List.Elements.{recursion_from_All}
use Rattle.qir_module.specs.declared.instruction.Operand.{Operand}
use Rattle.qir_module.specs.declared.instruction.Operand.TheVariants.{Register}
use Rattle.qir_module.specs.declared.instruction.Instr.{Instr}
use Rattle.qir_module.specs.declared.instruction.Last.{Last}
use Rattle.qir_module.specs.declared.instruction.Last.TheVariants.{Jump}
use Rattle.qir_module.specs.declared.block.Phi.{Phi}
use Rattle.qir_module.specs.Numbered.{CountsFrom, registers_of}
use Rattle.qir_module.specs.Spots.{TheInstr}
use Rattle.qir_module.specs.Passes.{is_record}
use Rattle.core_ir.specs.declared.expression.CellKind.{CellKind}
use Rattle.core_ir.specs.declared.expression.CellKind.TheVariants.{Truth as TruthKind}
use Rattle.core_ir.specs.declared.program.Output.{Output}
use Rattle.core_ir.specs.Core.{Core}
use Rattle.core_ir.specs.Size.{pair_exprs, leaf_exprs}
use Rattle.core_ir.specs.Tree.{Stmt, Skip, Seq, Assign, Gate, Reset, Measure, If, Block, Loop, Leave, Again, program_of}
use Rattle.core_ir.specs.Ways.{Falls, reaches}
use Rattle.core_ir.specs.WellFormed.{kind_at, PairFits, OutputFits, HasLevels}
use Rattle.cell_operands.specs.Operands.{is_number}
use Rattle.phi_place.specs.State.{CellState}
use Rattle.phi_place.specs.Phis.{phis_for, entries_of, values_for, ways_differ, WaysCarry, SameWhereNotDiffer}
use Rattle.expr_lower.specs.Lowered.{HasCell, Behind, AreCells}
use Rattle.block_graph.specs.Bounds.{IsHeldOutput}
use Rattle.block_graph.specs.Fitting.{IsFit}
use Rattle.block_graph.specs.Laws.{IsLowerable}
use Rattle.block_graph.specs.Work.{Ready, Late, Level, Open, Work}
use Rattle.block_graph.specs.Lowering.{Coder, IsCoder, stored, gate_call, reset_call, measure_call, read_call, record_call, opened, closed, close, when_open, way_of, label_at, assign_work, gate_work, reset_work, measure_work, leave_work, again_work, leave_zero, next_for, join_work, open_end, close_end, start_needs, open_loop, close_start, branch_last, first_operand, open_first, fall_work, fall_ways, open_second, join_bodies, two_bodies, lower_of, first_work, end_work, whole_work, settled_phis}
use Rattle.block_graph.specs.Claims.{phi_registers, AreSilent, EndsFine}
use Rattle.block_graph.proofs.Flow.{fall_none, leave_none}
use Rattle.block_graph.proofs.Moving.{IsValid, Grows, grows_refl, grows_then, grows_more, Settles, settles_left, settles_right, SameLevels, same_then, Emits}
use Rattle.block_graph.proofs.Emitting.{AreWithin, kind_within, pairs_within, leaf_within, now_of, coded}
use Rattle.block_graph.proofs.Choosing.{fallen}
use Rattle.block_graph.proofs.Whole.{open_end_valid, open_loop_valid, open_first_valid, open_second_valid, levels_same, emits, first_valid, program_fits}
use Rattle.block_graph.proofs.Coding.{IsNextCode, code_append, lowered_code, quiet_call, gate_quiet, gate_good, reset_code, measure_code, read_code, record_code, all_append, lowered_silent, gate_silent, behind_less, cell_less, counts_bound}

-- ---- phis

-- the registers of the phis of cells from c on, whatever the ways are
abbrev pub taken : (ℕ → Bool) → List CellKind → ℕ → ℕ → List ℕ
taken needs [] c next = []
taken needs (kind ∷ kinds) c next = if needs c then next ∷ taken needs kinds (suc c) (suc next) else taken needs kinds (suc c) next

pub taken_phis : (needs : ℕ → Bool) (ways : List CellState) (kinds : List CellKind) (c next : ℕ) → phi_registers (phis_for needs ways kinds c next) ≡ taken needs kinds c next
taken_phis needs ways [] c next = refl
taken_phis needs ways (kind ∷ kinds) c next = two (needs c) (taken_phis needs ways kinds (suc c) (suc next)) (taken_phis needs ways kinds (suc c) next)
  where
    two : (b : Bool) → phi_registers (phis_for needs ways kinds (suc c) (suc next)) ≡ taken needs kinds (suc c) (suc next) → phi_registers (phis_for needs ways kinds (suc c) next) ≡ taken needs kinds (suc c) next
        → phi_registers (if b then record { register = next; number = is_number kind; entries = entries_of ways c } ∷ phis_for needs ways kinds (suc c) (suc next) else phis_for needs ways kinds (suc c) next) ≡ (if b then next ∷ taken needs kinds (suc c) (suc next) else taken needs kinds (suc c) next)
    two true m s = ap (λ (xs : List ℕ). next ∷ xs) m
    two false m s = s

pub taken_counts : (needs : ℕ → Bool) (kinds : List CellKind) (c next : ℕ) → CountsFrom next (taken needs kinds c next)
taken_counts needs [] c next = tt
taken_counts needs (kind ∷ kinds) c next = two (needs c) (taken_counts needs kinds (suc c) (suc next)) (taken_counts needs kinds (suc c) next)
  where
    two : (b : Bool) → CountsFrom (suc next) (taken needs kinds (suc c) (suc next)) → CountsFrom next (taken needs kinds (suc c) next) → CountsFrom next (if b then next ∷ taken needs kinds (suc c) (suc next) else taken needs kinds (suc c) next)
    two true m s = (refl, m)
    two false m s = s

pub taken_next : (needs : ℕ → Bool) (kinds : List CellKind) (c next : ℕ) → next_for needs kinds c next ≡ next + length (taken needs kinds c next)
taken_next needs [] c next = omega arith
taken_next needs (kind ∷ kinds) c next = two (needs c) (taken_next needs kinds (suc c) (suc next)) (taken_next needs kinds (suc c) next)
  where
    two : (b : Bool) → next_for needs kinds (suc c) (suc next) ≡ suc next + length (taken needs kinds (suc c) (suc next)) → next_for needs kinds (suc c) next ≡ next + length (taken needs kinds (suc c) next)
        → (if b then next_for needs kinds (suc c) (suc next) else next_for needs kinds (suc c) next) ≡ next + length (if b then next ∷ taken needs kinds (suc c) (suc next) else taken needs kinds (suc c) next)
    two true m s = omega (arith, m)
    two false m s = s

-- ---- what stays as it is

join_lates : (kinds : List CellKind) (label : ℕ) (ways : List CellState) (x : Work) → (join_work kinds label ways x).lates ≡ x.lates
join_lates kinds label [] x = refl
join_lates kinds label (way ∷ ways) x = refl

pub close_end_lates : (kinds : List CellKind) (ls : List Level) (x : Work) → (close_end kinds ls x).lates ≡ x.lates
close_end_lates kinds [] x = refl
close_end_lates kinds (l ∷ ls) x = join_lates kinds l.label l.ways (record x { ends = ls })

pub fall_lates : (label : ℕ) (v : Work) (now : Option Open) → (when_open now v (λ o. close v o (Jump label))).lates ≡ v.lates
fall_lates label v None = refl
fall_lates label v (Some o) = refl

pub leave_lates : (k : ℕ) (v : Work) (now : Option Open) → (when_open now v (leave_work k v)).lates ≡ v.lates
leave_lates k v None = refl
leave_lates k v (Some o) = refl

pub bodies_lates : (kinds : List CellKind) (label : ℕ) (ways : List CellState) (u : Work) → (join_bodies kinds label ways u).lates ≡ u.lates
bodies_lates kinds label [] u = refl
bodies_lates kinds label (way ∷ ways) u = fall_lates label u u.now

-- the late phis that a loop's start has behind it, beside those of other loops
pub record IsClosed (old new : List (List Phi)) (late : ℕ) (registers : List ℕ) : Type 0 where
  pub long : length new ≡ length old
  pub other : (k : ℕ) → k ≢ late → get_or new k [] ≡ get_or old k []
  pub same : late < length old → phi_registers (get_or old late []) ≡ registers → phi_registers (get_or new late []) ≡ registers

pub closed_lates : (kinds : List CellKind) (needs : ℕ → Bool) (late next : ℕ) (ls : List Level) (v : Work) → IsClosed v.lates (close_start kinds needs late next ls v).lates late (taken needs kinds 0 next)
closed_lates kinds needs late next [] v = record { long = refl; other = λ k ne. refl; same = λ lt e. e }
closed_lates kinds needs late next (l ∷ ls) v =
    let ps = phis_for needs l.ways kinds 0 next in
    record {
      long = length-set v.lates late ps;
      other = λ k ne. get_or-set_other v.lates late k ps [] ne;
      same = λ lt e. ap phi_registers (get_or-set_same v.lates late ps [] lt) ∙ taken_phis needs l.ways kinds 0 next;
    }

pub close_start_now : (kinds : List CellKind) (needs : ℕ → Bool) (late next : ℕ) (ls : List Level) (v : Work) → (close_start kinds needs late next ls v).now ≡ v.now
close_start_now kinds needs late next [] v = refl
close_start_now kinds needs late next (l ∷ ls) v = refl

either_grows : (old : List (List Phi)) (x z : Work) (r : Bool) → Grows old x.lates [] → Grows old z.lates [] → Grows old (if r then x else z).lates []
either_grows old x z true f g = f
either_grows old x z false f g = g

when_grows : (n : Option Open) (w : Work) (f : Open → Work) → ((o : Open) → Grows w.lates (f o).lates []) → Grows w.lates (when_open n w f).lates []
when_grows None w f g = grows_refl w.lates []
when_grows (Some o) w f g = g o

pub one_longer : (xs : List (List Phi)) (ps : List Phi) → length (xs ++ ps ∷ []) ≡ suc (length xs)
one_longer xs ps = omega (arith, length-append xs (ps ∷ []))

-- a statement only adds late phis
pub lates_grow : (core : Core) (coder : Coder) (s : Stmt) (w : Work) → Grows w.lates (lower_of core coder s w).lates []
lates_grow core coder Skip w = grows_refl w.lates []
lates_grow core coder (Seq a b) w =
    let u = lower_of core coder a w in
    grows_then w.lates u.lates (lower_of core coder b u).lates [] (lates_grow core coder a w) (lates_grow core coder b u)
lates_grow core coder (Assign pairs) w = when_grows w.now w (assign_work coder pairs w) (λ o. grows_refl w.lates [])
lates_grow core coder (Gate leaf) w = when_grows w.now w (gate_work coder leaf w) (λ o. grows_refl w.lates [])
lates_grow core coder (Reset qubit) w = when_grows w.now w (reset_work qubit w) (λ o. grows_refl w.lates [])
lates_grow core coder (Measure qubit None) w = when_grows w.now w (measure_work qubit None w) (λ o. grows_refl w.lates [])
lates_grow core coder (Measure qubit (Some c)) w = when_grows w.now w (measure_work qubit (Some c) w) (λ o. grows_refl w.lates [])
lates_grow core coder (If test a b) w = when_grows w.now w (λ o. if reaches b Falls then two_bodies core.cells (length w.targets) o.values (lower_of core coder a (open_first coder true test w o)) (lower_of core coder b) else two_bodies core.cells (length w.targets) o.values (lower_of core coder b (open_first coder false test w o)) (lower_of core coder a)) (λ o.
    either_grows w.lates (two_bodies core.cells (length w.targets) o.values (lower_of core coder a (open_first coder true test w o)) (lower_of core coder b)) (two_bodies core.cells (length w.targets) o.values (lower_of core coder b (open_first coder false test w o)) (lower_of core coder a)) (reaches b Falls)
    (two_grow w (length w.targets) o.values (lower_of core coder a (open_first coder true test w o)) (lower_of core coder b) (lates_grow core coder a (open_first coder true test w o)) (λ g. lates_grow core coder b g))
    (two_grow w (length w.targets) o.values (lower_of core coder b (open_first coder false test w o)) (lower_of core coder a) (lates_grow core coder b (open_first coder false test w o)) (λ g. lates_grow core coder a g)))
  where
    two_grow : (w : Work) (label : ℕ) (values : List Operand) (v : Work) (second : Work → Work) → Grows w.lates v.lates [] → ((g : Work) → Grows g.lates (second g).lates []) → Grows w.lates (two_bodies core.cells label values v second).lates []
    two_grow w label values v second first more =
        let g = open_second (label + 1) values (fall_work (label + 2) v) in
        subst (λ (t : List (List Phi)). Grows w.lates t []) (sym (bodies_lates core.cells (label + 2) (fall_ways v v.now) (second g)))
        (grows_then w.lates v.lates (second g).lates [] first (subst (λ (t : List (List Phi)). Grows t (second g).lates []) (fall_lates (label + 2) v v.now) (more g)))
lates_grow core coder (Block a) w = when_grows w.now w (λ o. let v = leave_zero (lower_of core coder a (open_end w)) in close_end core.cells v.ends v) (λ o.
    let u = lower_of core coder a (open_end w) in
    let v = leave_zero u in
    subst (λ (t : List (List Phi)). Grows w.lates t []) (sym (close_end_lates core.cells v.ends v ∙ leave_lates 0 u u.now)) (lates_grow core coder a (open_end w)))
lates_grow core coder (Loop a) w =
    when_grows w.now w (λ o.
    let needs = start_needs core.exprs a o.values in
    let v = leave_zero (lower_of core coder a (open_loop core.cells needs w o)) in
    close_end core.cells v.ends (close_start core.cells needs (length w.lates) w.next v.starts v)) (λ o.
    let needs = start_needs core.exprs a o.values in
    let w1 = open_loop core.cells needs w o in
    let u = lower_of core coder a w1 in
    let v = leave_zero u in
    let x = close_start core.cells needs (length w.lates) w.next v.starts v in
    let first = phis_for needs (way_of w o ∷ []) core.cells 0 w.next in
    let c = closed_lates core.cells needs (length w.lates) w.next v.starts v in
    let grown : Grows w.lates u.lates [] = grows_then w.lates w1.lates u.lates [] (grows_more w.lates (first ∷ []) []) (lates_grow core coder a w1) in
    let same : v.lates ≡ u.lates = leave_lates 0 u u.now in
    subst (λ (t : List (List Phi)). Grows w.lates t []) (sym (close_end_lates core.cells v.ends x)) (record {
      long = omega (arith, grown.long, c.long, ap length same);
      same = λ k lt. c.other k (λ e. absurd (omega (arith, e, lt))) ∙ ap (λ (t : List (List Phi)). get_or t k []) same ∙ grown.same k lt;
    }))
lates_grow core coder (Leave k) w = when_grows w.now w (leave_work k w) (λ o. grows_refl w.lates [])
lates_grow core coder (Again k) w = when_grows w.now w (again_work k w) (λ o. grows_refl w.lates [])

-- ---- the late phis of loops

module _ (lates : ℕ → List Phi) where
  -- what a loop leaves in the list of late phis
  pub record LoopLates (kinds : List CellKind) (needs : ℕ → Bool) (w : Work) (o : Open) (u : Work) : Type 0 where
    pub own : phi_registers (lates (length w.lates)) ≡ taken needs kinds 0 w.next
    pub inner : Settles (open_loop kinds needs w o).lates u.lates lates []

  pub loop_lates : (kinds : List CellKind) (needs : ℕ → Bool) (w : Work) (o : Open) (u v : Work) (es ss : List Level) → v.lates ≡ u.lates → Grows (open_loop kinds needs w o).lates u.lates [] → Settles w.lates (close_end kinds es (close_start kinds needs (length w.lates) w.next ss v)).lates lates [] → LoopLates kinds needs w o u
  loop_lates kinds needs w o u v es ss same grown st =
      let x = close_start kinds needs (length w.lates) w.next ss v in
      let first = phis_for needs (way_of w o ∷ []) kinds 0 w.next in
      let c = closed_lates kinds needs (length w.lates) w.next ss v in
      let st' : Settles w.lates x.lates lates [] = subst (λ (t : List (List Phi)). Settles w.lates t lates []) (close_end_lates kinds es x) st in
      let long = one_longer w.lates first in
      let longer : length w.lates < length v.lates = omega (arith, long, grown.long, ap length same) in
      let placed : get_or v.lates (length w.lates) [] ≡ first = ap (λ (t : List (List Phi)). get_or t (length w.lates) []) same ∙ grown.same (length w.lates) (omega (arith, long)) ∙ get_or_at w.lates first [] [] (length w.lates) refl in
      record {
        own = ap phi_registers (st'.by (length w.lates) (omega arith) (omega (arith, c.long, longer))) ∙ c.same longer (ap phi_registers placed ∙ taken_phis needs (way_of w o ∷ []) kinds 0 w.next);
        inner = record { by = λ k le lt. st'.by k (omega (arith, le, long)) (omega (arith, lt, c.long, ap length same)) ∙ c.other k (λ e. absurd (omega (arith, e, le, long))) ∙ ap (λ (t : List (List Phi)). get_or t k []) same };
      }

-- ---- the steps

-- what each step keeps, where these are the late phis
pub record Steps (core : Core) (lates : ℕ → List Phi) (P : Work → Type 0) : Type 0 where
  -- code behind that of the open block
  pub more : (w v : Work) (o : Open) (code : List Instr) (values : List Operand) → w.now ≡ Some o → v.done ≡ w.done → v.now ≡ Some (record o { body = o.body ++ code; values = values }) → IsNextCode core w.next w.results v.next v.results code → AreSilent code → P w → P v
  -- the open block ends, behind some code
  pub ends : (w v : Work) (o : Open) (code : List Instr) (last : Last) → w.now ≡ Some o → v.done ≡ w.done ++ record { phis = o.phis; body = o.body ++ code; last = last } ∷ [] → v.now ≡ None → IsNextCode core w.next w.results v.next v.results code → AreSilent code → EndsFine last → P w → P v
  -- a block is opened, with phis of the next registers
  pub begins : (x v : Work) (o : Open) → x.now ≡ None → v.done ≡ x.done → v.now ≡ Some o → o.body ≡ [] → CountsFrom x.next (phi_registers (settled_phis lates o.phis)) → v.next ≡ x.next + length (phi_registers (settled_phis lates o.phis)) → v.results ≡ x.results → P x → P v
  -- nothing of this changes
  pub same : (w v : Work) → v.done ≡ w.done → v.now ≡ w.now → v.next ≡ w.next → v.results ≡ w.results → P w → P v

module _ (core : Core) (lates : ℕ → List Phi) (P : Work → Type 0) (steps : Steps core lates P) where
  jump_walk : (w v : Work) (o : Open) (last : Last) → w.now ≡ Some o → v.done ≡ w.done ++ closed o last ∷ [] → v.now ≡ None → v.next ≡ w.next → v.results ≡ w.results → EndsFine last → P w → P v
  jump_walk w v o last is done none en er t p =
      steps.ends w v o [] last is (done ∙ ap (λ (b : List Instr). w.done ++ record { phis = o.phis; body = b; last = last } ∷ []) (sym (append-nil o.body))) none
      (record { registers = tt; after = omega (arith, en); results = tt; measured = omega (arith, er); body = (tt, λ m. tt); good = tt }) tt t p

  -- the phis of these cells, with some ways
  phis_walk : (needs : ℕ → Bool) (kinds : List CellKind) (x v : Work) (o : Open) → x.now ≡ None → v.done ≡ x.done → v.now ≡ Some o → o.body ≡ [] → phi_registers (settled_phis lates o.phis) ≡ taken needs kinds 0 x.next → v.next ≡ next_for needs kinds 0 x.next → v.results ≡ x.results → P x → P v
  phis_walk needs kinds x v o none done now body e en er p =
      steps.begins x v o none done now body (subst (CountsFrom x.next) (sym e) (taken_counts needs kinds 0 x.next)) (omega (arith, en, taken_next needs kinds 0 x.next, ap length e)) er p

  join_walk : (kinds : List CellKind) (label : ℕ) (ways : List CellState) (x : Work) → x.now ≡ None → P x → P (join_work kinds label ways x)
  join_walk kinds label [] x none p = p
  join_walk kinds label (way ∷ ways) x none p =
      let needs = ways_differ (way ∷ ways) in
      phis_walk needs kinds x (join_work kinds label (way ∷ ways) x) (record { phis = Ready (phis_for needs (way ∷ ways) kinds 0 x.next); body = []; values = values_for needs way.values 0 x.next }) none refl refl refl (taken_phis needs (way ∷ ways) kinds 0 x.next) refl refl p

  close_end_walk : (kinds : List CellKind) (ls : List Level) (v : Work) → v.now ≡ None → P v → P (close_end kinds ls v)
  close_end_walk kinds [] v none p = p
  close_end_walk kinds (l ∷ ls) v none p = join_walk kinds l.label l.ways (record v { ends = ls }) none (steps.same v (record v { ends = ls }) refl refl refl refl p)

  close_start_walk : (kinds : List CellKind) (needs : ℕ → Bool) (late next : ℕ) (ls : List Level) (v : Work) → P v → P (close_start kinds needs late next ls v)
  close_start_walk kinds needs late next [] v p = p
  close_start_walk kinds needs late next (l ∷ ls) v p = steps.same v (close_start kinds needs late next (l ∷ ls) v) refl refl refl refl p

  fall_walk : (label : ℕ) (v : Work) (now : Option Open) → v.now ≡ now → P v → P (when_open now v (λ o. close v o (Jump label)))
  fall_walk label v None is p = p
  fall_walk label v (Some o) is p = jump_walk v (close v o (Jump label)) o (Jump label) is refl refl refl refl tt p

  leave_walk : (k : ℕ) (v : Work) (now : Option Open) → v.now ≡ now → P v → P (when_open now v (leave_work k v))
  leave_walk k v None is p = p
  leave_walk k v (Some o) is p = jump_walk v (leave_work k v o) o (Jump (label_at v.ends k)) is refl refl refl refl tt p

  again_walk : (k : ℕ) (v : Work) (now : Option Open) → v.now ≡ now → P v → P (when_open now v (again_work k v))
  again_walk k v None is p = p
  again_walk k v (Some o) is p = jump_walk v (again_work k v o) o (Jump (label_at v.starts k)) is refl refl refl refl tt p

  second_walk : (label : ℕ) (values : List Operand) (f : Work) → f.now ≡ None → P f → P (open_second label values f)
  second_walk label values f none p = steps.begins f (open_second label values f) (opened values) none refl refl refl tt (omega arith) refl p

  bodies_walk : (kinds : List CellKind) (label : ℕ) (ways : List CellState) (u : Work) → P u → P (join_bodies kinds label ways u)
  bodies_walk kinds label [] u p = p
  bodies_walk kinds label (way ∷ ways) u p = join_walk kinds label ((way ∷ ways) ++ fall_ways u u.now) (fall_work label u) (fall_none label u u.now refl) (fall_walk label u u.now refl p)

  loop_walk : (kinds : List CellKind) (needs : ℕ → Bool) (w : Work) (o : Open) → w.now ≡ Some o → phi_registers (lates (length w.lates)) ≡ taken needs kinds 0 w.next → P w → P (open_loop kinds needs w o)
  loop_walk kinds needs w o is late p =
      let mid : Work = record w { done = w.done ++ closed o (Jump (length w.targets)) ∷ []; now = None } in
      phis_walk needs kinds mid (open_loop kinds needs w o) (record { phis = Late (length w.lates); body = []; values = values_for needs o.values 0 w.next }) refl refl refl refl late refl refl (jump_walk w mid o (Jump (length w.targets)) is refl refl refl refl tt p)

  branch_differs : (holds : Bool) (operand : Operand) (label : ℕ) → EndsFine (branch_last holds operand label)
  branch_differs true operand label = λ e. absurd (omega (arith, e))
  branch_differs false operand label = λ e. absurd (omega (arith, e))

  first_walk : (coder : Coder) (holds : Bool) (test : ℕ) (w : Work) (o : Open) → w.now ≡ Some o → IsNextCode core w.next w.results (w.next + length (coder (test ∷ []) o.values w.next).code) w.results (coder (test ∷ []) o.values w.next).code → AreSilent (coder (test ∷ []) o.values w.next).code → P w → P (open_first coder holds test w o)
  first_walk coder holds test w o is code silent p =
      let c = coder (test ∷ []) o.values w.next in
      let last = branch_last holds (first_operand c.operands) (length w.targets) in
      let mid : Work = record w { done = w.done ++ record { phis = o.phis; body = o.body ++ c.code; last = last } ∷ []; now = None; next = w.next + length c.code } in
      steps.begins mid (open_first coder holds test w o) (opened o.values) refl refl refl refl tt (omega arith) refl (steps.ends w mid o c.code last is refl refl code silent (branch_differs holds (first_operand c.operands) (length w.targets)) p)

  either_walk : (w x z : Work) (r : Bool) → (Settles w.lates x.lates lates [] → P x) → (Settles w.lates z.lates lates [] → P z) → Settles w.lates (if r then x else z).lates lates [] → P (if r then x else z)
  either_walk w x z true f g k = f k
  either_walk w x z false f g k = g k

  when_walk : (n : Option Open) (w : Work) (f : Open → Work) → w.now ≡ n → Settles w.lates (when_open n w f).lates lates [] → P w → ((o : Open) → w.now ≡ Some o → Settles w.lates (f o).lates lates [] → P (f o)) → P (when_open n w f)
  when_walk None w f e st h next = h
  when_walk (Some o) w f e st h next = next o e st

-- ---- statements

module _ (carry : WaysCarry) (keeps : SameWhereNotDiffer) (core : Core) (coder : Coder) (isc : IsCoder core coder) (lates : ℕ → List Phi) (P : Work → Type 0) (steps : Steps core lates P) where
  expr_code : (exprs : List ℕ) (values : List Operand) (next results : ℕ) → AreWithin core exprs → AreCells core.cells next values → IsNextCode core next results (next + length (coder exprs values next).code) results (coder exprs values next).code
  expr_code exprs values next results within cells = lowered_code core exprs values next results (coder exprs values next).code (coder exprs values next).operands cells (coded core coder isc exprs values next within cells)

  expr_silent : (exprs : List ℕ) (values : List Operand) (next : ℕ) → AreWithin core exprs → AreCells core.cells next values → AreSilent (coder exprs values next).code
  expr_silent exprs values next within cells = lowered_silent core exprs values next (coder exprs values next).code (coder exprs values next).operands (coded core coder isc exprs values next within cells)

  choice_walk : (test : ℕ) (a b : Stmt) (holds : Bool) (w : Work) (o : Open) → w.now ≡ Some o → kind_at core test ≡ Some TruthKind → IsValid core.cells w → Emits core a (open_first coder holds test w o) (lower_of core coder a (open_first coder holds test w o))
      → (Settles w.lates (lower_of core coder a (open_first coder holds test w o)).lates lates [] → P (open_first coder holds test w o) → P (lower_of core coder a (open_first coder holds test w o)))
      → ((g : Work) → IsValid core.cells g → SameLevels w.ends g.ends → SameLevels w.starts g.starts → Settles g.lates (lower_of core coder b g).lates lates [] → P g → P (lower_of core coder b g))
      → P w → Settles w.lates (two_bodies core.cells (length w.targets) o.values (lower_of core coder a (open_first coder holds test w o)) (lower_of core coder b)).lates lates []
      → P (two_bodies core.cells (length w.targets) o.values (lower_of core coder a (open_first coder holds test w o)) (lower_of core coder b))
  choice_walk test a b holds w o is kind ok ea first second n st =
      let v = lower_of core coder a (open_first coder holds test w o) in
      let cells = now_of core.cells w o is ok in
      let fell = fallen core.cells (length w.targets + 2) v v.now refl ea.valid in
      let f = fall_work (length w.targets + 2) v in
      let more : w.next ≤ w.next + length (coder (test ∷ []) o.values w.next).code = omega arith in
      let le : w.next ≤ f.next = omega (arith, fell.next, ea.moves.next, more) in
      let g = open_second (length w.targets + 1) o.values f in
      let u = lower_of core coder b g in
      let valid = open_second_valid core.cells (length w.targets + 1) w.next o.values f cells le fell.valid in
      let same : f.lates ≡ v.lates = fall_lates (length w.targets + 2) v v.now in
      let grown_b : Grows v.lates u.lates [] = subst (λ (t : List (List Phi)). Grows t u.lates []) same (lates_grow core coder b g) in
      let grown_a : Grows w.lates v.lates [] = lates_grow core coder a (open_first coder holds test w o) in
      let st_u : Settles w.lates u.lates lates [] = subst (λ (t : List (List Phi)). Settles w.lates t lates []) (bodies_lates core.cells (length w.targets + 2) (fall_ways v v.now) u) st in
      let st_b : Settles g.lates u.lates lates [] = subst (λ (t : List (List Phi)). Settles t u.lates lates []) (sym same) (settles_right w.lates v.lates u.lates lates [] grown_a st_u) in
      let code = expr_code (test ∷ []) o.values w.next w.results (kind_within core test TruthKind kind, tt) cells in
      let nv = first (settles_left w.lates v.lates u.lates lates [] grown_b st_u) (first_walk core lates P steps coder holds test w o is code (expr_silent (test ∷ []) o.values w.next (kind_within core test TruthKind kind, tt) cells) n) in
      let ng = second_walk core lates P steps (length w.targets + 1) o.values f (fall_none (length w.targets + 2) v v.now refl) (fall_walk core lates P steps (length w.targets + 2) v v.now refl nv) in
      bodies_walk core lates P steps core.cells (length w.targets + 2) (fall_ways v v.now) u (second g valid (same_then w.ends v.ends f.ends ea.moves.ends fell.moves.ends) (same_then w.starts v.starts f.starts ea.moves.starts fell.moves.starts) st_b ng)

  pub walk : (s : Stmt) (w : Work) → IsFit core s → HasLevels s (length w.ends) (length w.starts) → IsValid core.cells w → Settles w.lates (lower_of core coder s w).lates lates [] → P w → P (lower_of core coder s w)
  walk Skip w fit l ok st n = n
  walk (Seq a b) w fit l ok st n =
      let u = lower_of core coder a w in
      let ea = emits carry keeps core coder isc a w fit.0 l.0 ok in
      walk b u fit.1 (levels_same b w u ea.moves.ends ea.moves.starts l.1) ea.valid (settles_right w.lates u.lates (lower_of core coder b u).lates lates [] (lates_grow core coder a w) st)
      (walk a w fit.0 l.0 ok (settles_left w.lates u.lates (lower_of core coder b u).lates lates [] (lates_grow core coder b u) st) n)
  walk (Assign pairs) w fit l ok st n = when_walk core lates P steps w.now w (assign_work coder pairs w) refl st n (λ o is st'.
      let c = coder (pair_exprs pairs) o.values w.next in
      steps.more w (assign_work coder pairs w o) o c.code (stored pairs c.operands o.values) is refl refl (expr_code (pair_exprs pairs) o.values w.next w.results (pairs_within core pairs (recursion_from_All (PairFits core) pairs fit)) (now_of core.cells w o is ok)) (expr_silent (pair_exprs pairs) o.values w.next (pairs_within core pairs (recursion_from_All (PairFits core) pairs fit)) (now_of core.cells w o is ok)) n)
  walk (Gate leaf) w fit l ok st n = when_walk core lates P steps w.now w (gate_work coder leaf w) refl st n (λ o is st'.
      let c = coder (leaf_exprs leaf) o.values w.next in
      let i = gate_call leaf c.operands in
      let next = w.next + length c.code in
      let cells = now_of core.cells w o is ok in
      let within = leaf_within core leaf fit.0 in
      let lowered = coded core coder isc (leaf_exprs leaf) o.values w.next within cells in
      let few : list_all (λ r. nat_lt r next) (flat_map registers_of c.code) ≡ true = counts_bound w.next next (flat_map registers_of c.code) lowered.registers (omega (arith, (expr_code (leaf_exprs leaf) o.values w.next w.results within cells).after)) in
      steps.more w (gate_work coder leaf w o) o (c.code ++ i ∷ []) o.values is refl refl (code_append core w.next w.results next w.results next w.results c.code (i ∷ []) (expr_code (leaf_exprs leaf) o.values w.next w.results within cells) (quiet_call core i next w.results refl (gate_quiet leaf c.operands core fit.0) (gate_good core next w.results leaf (Behind (HasCell core.cells o.values) c.code) c.operands (behind_less next (HasCell core.cells o.values) c.code (λ r t h. cell_less core.cells w.next next o.values (omega arith) cells r t h) few) fit.0 fit.1 fit.2 lowered.typed))) (all_append (λ (j : Instr). is_record (TheInstr j) ≡ false) c.code (i ∷ []) (expr_silent (leaf_exprs leaf) o.values w.next within cells) (gate_silent core leaf c.operands fit.0)) n)
  walk (Reset qubit) w fit l ok st n = when_walk core lates P steps w.now w (reset_work qubit w) refl st n (λ o is st'.
      steps.more w (reset_work qubit w o) o (reset_call qubit ∷ []) o.values is refl refl (reset_code core qubit w.next w.results fit) (refl, tt) n)
  walk (Measure qubit None) w fit l ok st n = when_walk core lates P steps w.now w (measure_work qubit None w) refl st n (λ o is st'.
      steps.more w (measure_work qubit None w o) o (measure_call qubit w.results ∷ []) o.values is refl refl (measure_code core qubit w.next w.results fit.0) (refl, tt) n)
  walk (Measure qubit (Some c)) w fit l ok st n = when_walk core lates P steps w.now w (measure_work qubit (Some c) w) refl st n (λ o is st'.
      steps.more w (measure_work qubit (Some c) w o) o (measure_call qubit w.results ∷ read_call w.next w.results ∷ []) (slice_set o.values c (Register w.next)) is refl refl (read_code core qubit w.next w.results fit.0) (refl, (refl, tt)) n)
  walk (If test a b) w fit l ok st n =
      when_walk core lates P steps w.now w (λ o. if reaches b Falls then two_bodies core.cells (length w.targets) o.values (lower_of core coder a (open_first coder true test w o)) (lower_of core coder b) else two_bodies core.cells (length w.targets) o.values (lower_of core coder b (open_first coder false test w o)) (lower_of core coder a)) refl st n (λ o is st'.
      let oka = open_first_valid core.cells coder true test w o is ok in
      let okb = open_first_valid core.cells coder false test w o is ok in
      either_walk core lates P steps w (two_bodies core.cells (length w.targets) o.values (lower_of core coder a (open_first coder true test w o)) (lower_of core coder b)) (two_bodies core.cells (length w.targets) o.values (lower_of core coder b (open_first coder false test w o)) (lower_of core coder a)) (reaches b Falls)
      (choice_walk test a b true w o is fit.0 ok (emits carry keeps core coder isc a (open_first coder true test w o) fit.1 l.0 oka) (λ s m. walk a (open_first coder true test w o) fit.1 l.0 oka s m) (λ g vg se ss s m. walk b g fit.2 (levels_same b w g se ss l.1) vg s m) n)
      (choice_walk test b a false w o is fit.0 ok (emits carry keeps core coder isc b (open_first coder false test w o) fit.2 l.1 okb) (λ s m. walk b (open_first coder false test w o) fit.2 l.1 okb s m) (λ g vg se ss s m. walk a g fit.1 (levels_same a w g se ss l.0) vg s m) n)
      st')
  walk (Block a) w fit l ok st n = when_walk core lates P steps w.now w (λ o. let v = leave_zero (lower_of core coder a (open_end w)) in close_end core.cells v.ends v) refl st n (λ o is st'.
      let u = lower_of core coder a (open_end w) in
      let v = leave_zero u in
      let inner : Settles w.lates u.lates lates [] = subst (λ (t : List (List Phi)). Settles w.lates t lates []) (close_end_lates core.cells v.ends v ∙ leave_lates 0 u u.now) st' in
      let nu = walk a (open_end w) fit l (open_end_valid core.cells w ok) inner (steps.same w (open_end w) refl refl refl refl n) in
      close_end_walk core lates P steps core.cells v.ends v (leave_none u u.now refl) (leave_walk core lates P steps 0 u u.now refl nu))
  walk (Loop a) w fit l ok st n =
      when_walk core lates P steps w.now w (λ o.
      let needs = start_needs core.exprs a o.values in
      let v = leave_zero (lower_of core coder a (open_loop core.cells needs w o)) in
      close_end core.cells v.ends (close_start core.cells needs (length w.lates) w.next v.starts v)) refl st n (λ o is st'.
      let needs = start_needs core.exprs a o.values in
      let w1 = open_loop core.cells needs w o in
      let u = lower_of core coder a w1 in
      let v = leave_zero u in
      let kept = loop_lates lates core.cells needs w o u v v.ends v.starts (leave_lates 0 u u.now) (lates_grow core coder a w1) st' in
      let nu = walk a w1 fit l (open_loop_valid core.cells needs w o is ok) kept.inner (loop_walk core lates P steps core.cells needs w o is kept.own n) in
      close_end_walk core lates P steps core.cells v.ends (close_start core.cells needs (length w.lates) w.next v.starts v) (close_start_now core.cells needs (length w.lates) w.next v.starts v ∙ leave_none u u.now refl) (close_start_walk core lates P steps core.cells needs (length w.lates) w.next v.starts v (leave_walk core lates P steps 0 u u.now refl nu)))
  walk (Leave k) w fit l ok st n = leave_walk core lates P steps k w w.now refl n
  walk (Again k) w fit l ok st n = again_walk core lates P steps k w w.now refl n

-- ---- the program

-- the late phis of the whole
abbrev pub late_phis : Core → Coder → ℕ → List Phi
late_phis core coder k = get_or (whole_work core coder).lates k []

pub end_none : (outputs : List Output) (v : Work) (now : Option Open) → v.now ≡ now → (when_open now v (end_work outputs v)).now ≡ None
end_none outputs v None is = is
end_none outputs v (Some o) is = refl

end_lates : (outputs : List Output) (v : Work) (now : Option Open) → (when_open now v (end_work outputs v)).lates ≡ v.lates
end_lates outputs v None = refl
end_lates outputs v (Some o) = refl

pub program_settles : (core : Core) (coder : Coder) → Settles [] (lower_of core coder (program_of core) (first_work (length core.cells))).lates (late_phis core coder) []
program_settles core coder =
    let v = lower_of core coder (program_of core) (first_work (length core.cells)) in
    record { by = λ k le lt. ap (λ (t : List (List Phi)). get_or t k []) (end_lates core.outputs v v.now) }

-- up to the end, and behind it
pub walk_program : WaysCarry → SameWhereNotDiffer → (core : Core) (coder : Coder) → IsLowerable core coder → (P Q : Work → Type 0) → Steps core (late_phis core coder) P → P (first_work (length core.cells))
    → ((v : Work) → v.now ≡ None → P v → Q v)
    → ((v : Work) (o : Open) → v.now ≡ Some o → IsNextCode core v.next v.results v.next v.results (map (record_call o.values) core.outputs) → P v → Q (end_work core.outputs v o))
    → Q (whole_work core coder)
walk_program carry keeps core coder l P Q steps p stays ends =
    let lates = late_phis core coder in
    let v = lower_of core coder (program_of core) (first_work (length core.cells)) in
    at v v.now refl (emits carry keeps core coder l.coder_fits (program_of core) (first_work (length core.cells)) (program_fits core l.fits l.held) l.fits.well_formed.levels (first_valid core.cells)).valid (walk carry keeps core coder l.coder_fits lates P steps (program_of core) (first_work (length core.cells)) (program_fits core l.fits l.held) l.fits.well_formed.levels (first_valid core.cells) (program_settles core coder) p)
  where
    at : (v : Work) (now : Option Open) → v.now ≡ now → IsValid core.cells v → P v → Q (when_open now v (end_work core.outputs v))
    at v None is ok p = stays v is p
    at v (Some o) is ok p = ends v o is (record_code core o.values core.outputs v.next v.results (now_of core.cells v o is ok) (recursion_from_All (OutputFits core) core.outputs l.fits.well_formed.outputs) (recursion_from_All IsHeldOutput core.outputs l.held.outputs)) p
