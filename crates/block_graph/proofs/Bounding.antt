-- The module is as small as the core's size says.
use Rattle.std.proofs.Common.{◌≡◌, ℕ, zero, suc, ◌+◌, ◌*◌, ◌<◌, ◌≤◌, ◌⊎◌, inl, inr, ⊎_elim, Bool, true, false, not, ◌&&◌, ◌||◌, List, [], ◌∷◌, ◌++◌, map, length, get_or, pos, Option, Some, None, refl, sym, ap, ◌∙◌, subst, arith, length-append, length-set, get_or-set_same}
use Rattle.std.specs.Prelude.{slice_set, if◌then◌else◌}
use Rattle.std.specs.List.{sum_by, AllByRecursion}
use Rattle.std.proofs.lemmas.List.Sums.{sum_by-cons, sum_by-append}
use Rattle.std.proofs.lemmas.List.Elements.{recursion_from_All}
use Rattle.qir_module.specs.declared.instruction.Operand.{Operand}
use Rattle.qir_module.specs.declared.instruction.Operand.TheVariants.{Fixed, Register}
use Rattle.qir_module.specs.declared.instruction.Last.TheVariants.{Jump, Return}
use Rattle.qir_module.specs.declared.block.Phi.{Phi}
use Rattle.qir_module.specs.declared.block.Block.{Block as ModuleBlock}
use Rattle.qir_module.specs.Items.{block_items}
use Rattle.core_ir.specs.declared.expression.CellKind.{CellKind}
use Rattle.core_ir.specs.declared.expression.CellKind.TheVariants.{Truth as TruthKind}
use Rattle.core_ir.specs.declared.program.Output.{Output}
use Rattle.core_ir.specs.declared.program.Output.TheVariants.{Array as ArrayOutput, Truth as TruthOutput, Number as NumberOutput}
use Rattle.core_ir.specs.Core.{Core}
use Rattle.core_ir.specs.Size.{count_from, working_nodes, pair_exprs, leaf_exprs, open_cells, at_level, weight_of, knots_of, calls_of, joined_of}
use Rattle.core_ir.specs.Tree.{Stmt, Skip, Seq, Assign, Gate, Reset, Measure, If, Block, Loop, Leave, Again, program_of}
use Rattle.core_ir.specs.Ways.{Exit, Falls, Agains, reaches, passes, stores, assigns, Before, begin, after, loop_start}
use Rattle.core_ir.specs.WellFormed.{kind_at, PairFits, HasLevels}
use Rattle.cell_operands.specs.Operands.{operand_of}
use Rattle.phi_place.specs.State.{CellState}
use Rattle.phi_place.specs.Phis.{operand_at, same_operand, phis_for, values_for, ways_differ, WaysCarry, SameWhereNotDiffer}
use Rattle.expr_lower.specs.Lowered.{HasCell}
use Rattle.block_graph.specs.Fitting.{IsFit}
use Rattle.block_graph.specs.Laws.{work_in, IsLowerable, IsWithin}
use Rattle.block_graph.specs.Work.{Late, Draft, Level, Open, Work}
use Rattle.block_graph.specs.Lowering.{Coder, IsCoder, stored, gate_call, reset_call, measure_call, read_call, record_call, opened, closed, close, when_open, way_of, label_at, assign_work, gate_work, reset_work, measure_work, leave_work, again_work, leave_zero, join_work, open_end, close_end, start_needs, open_loop, close_start, branch_last, first_operand, open_first, fall_work, fall_ways, open_second, join_bodies, two_bodies, lower_of, first_work, end_work, whole_work, settled, settled_from, lowered}
use Rattle.block_graph.specs.Claims.{counted_draft, counted_now, entries_in, no_phis, no_code, one_each, phis_in, items_in, phis_counted, calls_in, blocks_in, paid, Grown}
use Rattle.block_graph.proofs.Cells.{zero_at}
use Rattle.block_graph.proofs.Flow.{or_left, or_right, or_cases, and_both, and_cases, Added, dead, fall_ends, fall_starts, fall_none, join_ends, join_starts, leave_none, from_inside, Good, NowGood, fallen_good, open_at, At, NowAt, BeginsAt, if_left, if_right, keep_flows, zero_flows, keep_block, zero_block, keep_loop, zero_loop, zero_start, zero_header, differ_open}
use Rattle.block_graph.proofs.Moving.{IsValid, Grows, Settles, settles_left, settles_right, SameLevels, same_then, Emits}
use Rattle.block_graph.proofs.Emitting.{kind_within, pairs_within, leaf_within, now_of, coded}
use Rattle.block_graph.proofs.Choosing.{fallen}
use Rattle.block_graph.proofs.Whole.{open_end_valid, open_loop_valid, open_first_valid, open_second_valid, levels_same, body_emits, emits, first_valid, program_fits}
use Rattle.block_graph.proofs.Walking.{lates_grow, bodies_lates, fall_lates, leave_lates, close_end_lates, loop_lates, one_longer, late_phis, end_none, program_settles}
use Rattle.block_graph.proofs.Sizing.{none_sum, count_less, phis_many, phis_entries, times_less, stores_assigns, ones, code_work, one_work, Adds, adds_none, adds_more, code_adds, close_adds, jump_adds, open_adds, join_adds, paid_way}

-- ---- what is open where

module _ (core : Core) (coder : Coder) (constant : IsCoder core coder) where
  -- of the open block: some way leads there, and a cell that is not open is 0
  pub record Stands (at : Before) (w : Work) : Type 0 where
    pub reached : (o : Open) → w.now ≡ Some o → at.reached ≡ true
    pub cells : (c : ℕ) → BeginsAt core c (Fixed (pos 0)) false (at.open_cell c) w.now

  after_open : (s : Stmt) (at : Before) (x : Exit) (c : ℕ) → at.reached ≡ true → open_at core c (Fixed (pos 0)) false s (at.open_cell c) x ≡ true → (after core.exprs s x at).open_cell c ≡ true
  after_open s at x c r e =
      ⊎_elim (λ h. or_left (at.reached && stores false core.exprs s c x) (passes s c x && at.open_cell c) (and_both at.reached (stores false core.exprs s c x) r h))
      (λ h. or_right (at.reached && stores false core.exprs s c x) (passes s c x && at.open_cell c) h)
      (or_cases (stores false core.exprs s c x) (passes s c x && at.open_cell c) e)

  -- behind a statement
  pub stands_after : (s : Stmt) (at : Before) (w : Work) (n : Option Open) → w.now ≡ n → Stands at w → Stands (after core.exprs s Falls at) (lower_of core coder s w)
  stands_after s at w None e st =
      let u = lower_of core coder s w in
      let none : u.now ≡ None = ap (λ (z : Work). z.now) (dead core coder s w e) ∙ e in
      record { reached = λ o h. absurd (cc (none, h)); cells = λ c. subst (BeginsAt core c (Fixed (pos 0)) false ((after core.exprs s Falls at).open_cell c)) (sym none) tt }
  stands_after s at w (Some o) e st =
      let u = lower_of core coder s w in
      let r = st.reached o e in
      let flow : (c : ℕ) → NowAt core c (Fixed (pos 0)) false s (at.open_cell c) u.now = λ c. (zero_flows core coder constant.constants c s (at.open_cell c) w (st.cells c)).now in
      record { reached = λ p h. there r p (subst (NowAt core 0 (Fixed (pos 0)) false s (at.open_cell 0)) h (flow 0)); cells = λ c. cells r c u.now (flow c) }
    where
      there : at.reached ≡ true → (p : Open) → NowAt core 0 (Fixed (pos 0)) false s (at.open_cell 0) (Some p) → (at.reached && reaches s Falls) ≡ true
      there r p h = and_both at.reached (reaches s Falls) r h.0

      cells : at.reached ≡ true → (c : ℕ) (n : Option Open) → NowAt core c (Fixed (pos 0)) false s (at.open_cell c) n → BeginsAt core c (Fixed (pos 0)) false ((after core.exprs s Falls at).open_cell c) n
      cells r c None h = tt
      cells r c (Some p) h = ⊎_elim (λ k. inl k) (λ k. inr (after_open s at Falls c r k)) h.1

  start_open : (a : Stmt) (at : Before) (c : ℕ) → at.reached ≡ true → (at.open_cell c || stores false core.exprs a c (Agains 0)) ≡ true → (loop_start core.exprs a at).open_cell c ≡ true
  start_open a at c r k =
      ⊎_elim (λ q. or_left (at.open_cell c) (at.reached && stores false core.exprs a c (Agains 0)) q)
      (λ q. or_right (at.open_cell c) (at.reached && stores false core.exprs a c (Agains 0)) (and_both at.reached (stores false core.exprs a c (Agains 0)) r q))
      (or_cases (at.open_cell c) (stores false core.exprs a c (Agains 0)) k)

  cell_at : (at : Before) (w : Work) (o : Open) (c : ℕ) → w.now ≡ Some o → Stands at w → (operand_of o.values c ≡ Fixed (pos 0)) ⊎ (at.open_cell c ≡ true)
  cell_at at w o c e st = subst (BeginsAt core c (Fixed (pos 0)) false (at.open_cell c)) e (st.cells c)

  -- at the start of a loop's body
  stands_start : (a : Stmt) (at : Before) (w : Work) (o : Open) → w.now ≡ Some o → Stands at w → Stands (loop_start core.exprs a at) (open_loop core.cells (start_needs core.exprs a o.values) w o)
  stands_start a at w o e st =
      let r = st.reached o e in
      record {
        reached = λ p h. r;
        cells = λ c. ⊎_elim (λ k. inl k) (λ k. inr (start_open a at c r k)) (zero_start core coder constant.constants c a o.values w.next (at.open_cell c) (cell_at at w o c e st));
      }

  -- the cells with a phi at the start of a loop
  start_cells : (a : Stmt) (at : Before) (w : Work) (o : Open) → w.now ≡ Some o → Stands at w → (c : ℕ) → start_needs core.exprs a o.values c ≡ true → ((loop_start core.exprs a at).open_cell c && assigns a c) ≡ true
  start_cells a at w o e st c h =
      let b = zero_header core c a (operand_of o.values c) (at.open_cell c) (cell_at at w o c e st) h in
      and_both ((loop_start core.exprs a at).open_cell c) (assigns a c) (start_open a at c (st.reached o e) b)
      (stores_assigns core.exprs a c (Agains 0) (and_cases (stores true core.exprs a c (Agains 0)) (not (same_operand (operand_of o.values c) (Fixed (pos 0))) || stores false core.exprs a c (Agains 0)) h).0)

  -- the ways to an end: where they differ, the cell is open, and was assigned
  record Ending (s : Stmt) (at : Before) (values : List Operand) (ways : List CellState) : Type 0 where
    zeros : (c : ℕ) → AllByRecursion (λ (way : CellState). Good (Fixed (pos 0)) (reaches s Falls) (open_at core c (Fixed (pos 0)) false s (at.open_cell c) Falls) (operand_at way c)) ways
    keeps : (c : ℕ) → AllByRecursion (λ (way : CellState). Good (operand_of values c) (reaches s Falls) (open_at core c (operand_of values c) true s false Falls) (operand_at way c)) ways

  never : (b : Bool) → (b && false) ≡ true → ⊥
  never true e = cc e
  never false e = cc e

  ending_differs : (s : Stmt) (at : Before) (values : List Operand) (ways : List CellState) → at.reached ≡ true → Ending s at values ways → (c : ℕ) → ways_differ ways c ≡ true → ((after core.exprs s Falls at).open_cell c ≡ true) × (assigns s c ≡ true)
  ending_differs s at values ways r en c d =
      let z = differ_open (Fixed (pos 0)) c (reaches s Falls) (open_at core c (Fixed (pos 0)) false s (at.open_cell c) Falls) ways (en.zeros c) d in
      let y = operand_of values c in
      let k = differ_open y c (reaches s Falls) (open_at core c y true s false Falls) ways (en.keeps c) d in
      (after_open s at Falls c r z, stores_assigns core.exprs s c Falls (⊎_elim (λ h. h) (λ h. absurd (never (passes s c Falls) h)) (or_cases (stores true core.exprs s c Falls) (passes s c Falls && false) k)))

-- ---- sums alone

-- of a block: w in front, u behind its body, v behind what leaves it, and all behind its join
block_sum : (iw iu iv iall behind leaving pwe pws pue pus pve pvs pls pks wa : ℕ) → iu + pue + pus ≤ iw + pwe + pws + wa → iv + pve + pvs ≤ iu + pue + pus + behind → iall ≤ iv + (2 + leaving) → pve ≡ leaving + pls → pvs ≡ pks → iall + pls + pks ≤ iw + pwe + pws + (2 + behind + wa)
block_sum iw iu iv iall behind leaving pwe pws pue pus pve pvs pls pks wa h1 h2 h3 h4 h5 = omega (arith, h1, h2, h3, h4, h5)

-- of a loop: besides, mid behind the block in front, and i1 at its start
loop_sum : (iw imid i1 iu iv iall entries starting start behind leaving pwe pws pue pus pve pvs pls pks wa : ℕ) → imid ≤ iw → i1 ≤ imid + (2 + entries) → entries ≤ starting → iu + pue + pus ≤ i1 + pwe + (start + pws) + wa → iv + pve + pvs ≤ iu + pue + pus + behind → iall ≤ iv + (2 + leaving) → pve ≡ leaving + pls → pvs ≡ starting + pks
    → iall + pls + pks ≤ iw + pwe + pws + (4 + start + behind + wa)
loop_sum iw imid i1 iu iv iall entries starting start behind leaving pwe pws pue pus pve pvs pls pks wa h1 h2 h3 h4 h5 h6 h7 h8 = omega (arith, h1, h2, h3, h4, h5, h6, h7, h8)

times_two : (x k : ℕ) → k ≤ 2 → x * k ≤ 2 * x
times_two x zero le = omega arith
times_two x (suc zero) le = omega arith
times_two x (suc (suc zero)) le = omega arith
times_two x (suc (suc (suc k))) le = absurd (omega (arith, le))

fall_ways_long : (u : Work) (now : Option Open) (way : CellState) → length (way ∷ fall_ways u now) ≤ 2
fall_ways_long u None way = omega arith
fall_ways_long u (Some o) way = omega arith

two_least : (b : Bool) → 2 ≤ (if b then 3 else 2)
two_least true = omega arith
two_least false = omega arith

three_least : (b : Bool) → b ≡ true → 3 ≤ (if b then 3 else 2)
three_least true e = omega arith
three_least false e = absurd (cc e)

-- ---- a statement

module _ (carry : WaysCarry) (keep : SameWhereNotDiffer) (core : Core) (coder : Coder) (isc : IsCoder core coder) (lates : ℕ → List Phi) where
  abbrev pub GrownHere : Stmt → Before → List ℕ → List ℕ → Work → Work → Type 0
  GrownHere s at ends starts w v = Grown lates (length core.cells) core.exprs s at ends starts w v

  abbrev pub few : ℕ
  few = length core.cells

  -- code alone
  grown_adds : (s : Stmt) (at : Before) (ends starts : List ℕ) (w v : Work) (i c : ℕ) → Adds lates w v i 0 c 0 → v.ends ≡ w.ends → v.starts ≡ w.starts → i ≤ weight_of few core.exprs s at ends starts → c ≤ calls_of s → GrownHere s at ends starts w v
  grown_adds s at ends starts w v i c a e h hi hc =
      let pe = ap (λ (k : List Level). paid k ends) e in
      let ph = ap (λ (k : List Level). paid k starts) h in
      record { items = omega (arith, a.items, hi, pe, ph); phis = omega (arith, a.phis); calls = omega (arith, a.calls, hc); blocks = omega (arith, a.blocks) }

  grown_none : (s : Stmt) (at : Before) (ends starts : List ℕ) (w : Work) → GrownHere s at ends starts w w
  grown_none s at ends starts w = record { items = omega arith; phis = omega arith; calls = omega arith; blocks = omega arith }

  grown_when : (s : Stmt) (at : Before) (ends starts : List ℕ) (w : Work) (f : Open → Work) (now : Option Open) → w.now ≡ now → Settles w.lates (when_open now w f).lates lates [] → ((o : Open) → w.now ≡ Some o → Settles w.lates (f o).lates lates [] → GrownHere s at ends starts w (f o)) → GrownHere s at ends starts w (when_open now w f)
  grown_when s at ends starts w f None e st next = grown_none s at ends starts w
  grown_when s at ends starts w f (Some o) e st next = next o e st

  grown_either : (s : Stmt) (at : Before) (ends starts : List ℕ) (w x z : Work) (r : Bool) → (r ≡ true → Settles w.lates x.lates lates [] → GrownHere s at ends starts w x) → (r ≡ false → Settles w.lates z.lates lates [] → GrownHere s at ends starts w z) → Settles w.lates (if r then x else z).lates lates [] → GrownHere s at ends starts w (if r then x else z)
  grown_either s at ends starts w x z true f g st = f refl st
  grown_either s at ends starts w x z false f g st = g refl st

  -- a way that leaves pays for the open cells where it goes
  record Paid (ends starts : List ℕ) (w v : Work) (cost : ℕ) : Type 0 where
    items : items_in lates v + paid v.ends ends + paid v.starts starts ≤ items_in lates w + paid w.ends ends + paid w.starts starts + cost
    phis : phis_counted lates v ≤ phis_counted lates w
    calls : calls_in lates v ≤ calls_in lates w
    blocks : blocks_in lates v ≤ blocks_in lates w

  leave_paid : (k : ℕ) (ends starts : List ℕ) (w : Work) (now : Option Open) → w.now ≡ now → Paid ends starts w (when_open now w (leave_work k w)) (at_level ends k)
  leave_paid k ends starts w None is = record { items = omega arith; phis = omega arith; calls = omega arith; blocks = omega arith }
  leave_paid k ends starts w (Some o) is =
      let a = jump_adds lates w (leave_work k w o) o (Jump (label_at w.ends k)) is refl refl in
      let p = paid_way w.ends ends k (way_of w o) in
      record { items = omega (arith, a.items, p); phis = omega (arith, a.phis); calls = omega (arith, a.calls); blocks = omega (arith, a.blocks) }

  again_paid : (k : ℕ) (ends starts : List ℕ) (w : Work) (now : Option Open) → w.now ≡ now → Paid ends starts w (when_open now w (again_work k w)) (at_level starts k)
  again_paid k ends starts w None is = record { items = omega arith; phis = omega arith; calls = omega arith; blocks = omega arith }
  again_paid k ends starts w (Some o) is =
      let a = jump_adds lates w (again_work k w o) o (Jump (label_at w.starts k)) is refl refl in
      let p = paid_way w.starts starts k (way_of w o) in
      record { items = omega (arith, a.items, p); phis = omega (arith, a.phis); calls = omega (arith, a.calls); blocks = omega (arith, a.blocks) }

  -- ---- ends of blocks and loops

  end_adds : (s : Stmt) (at : Before) (values : List Operand) (v : Work) (l : Level) (ls : List Level) → v.now ≡ None → at.reached ≡ true → Ending core coder isc s at values l.ways
      → Adds lates (record v { ends = ls }) (join_work core.cells l.label l.ways (record v { ends = ls })) (2 + open_cells few (after core.exprs s Falls at) * length l.ways) (count_from (λ c. (after core.exprs s Falls at).open_cell c && assigns s c) 0 few) 0 1
  end_adds s at values v l ls none r en = join_adds lates core.cells l.label l.ways (record v { ends = ls }) (after core.exprs s Falls at).open_cell (assigns s) none (ending_differs core coder isc s at values l.ways r en)

  first_ways : (P : CellState → Type 0) (l : Level) → ((more : List CellState) × (l.ways ≡ [] ++ more) × AllByRecursion P more) → AllByRecursion P l.ways
  first_ways P l a = subst (AllByRecursion P) (sym a.1) a.2

  block_ending : (a : Stmt) (at : Before) (w : Work) (o : Open) (l : Level) (ls : List Level) → w.now ≡ Some o → Stands core coder isc at w → (leave_zero (lower_of core coder a (open_end w))).ends ≡ l ∷ ls → Ending core coder isc (Block a) at o.values l.ways
  block_ending a at w o l ls is st e = record {
    zeros = λ c. first_ways (λ (way : CellState). At core c (Fixed (pos 0)) false (Block a) (at.open_cell c) Falls (operand_at way c)) l (subst (λ (k : List Level). Added (λ k way. At core c (Fixed (pos 0)) false (Block a) (at.open_cell c) (from_inside k) (operand_at way c)) (open_end w).ends k) e (zero_block core coder isc.constants c a (at.open_cell c) w (st.cells c))).0;
    keeps = λ c. let y = operand_of o.values c in first_ways (λ (way : CellState). At core c y true (Block a) false Falls (operand_at way c)) l (subst (λ (k : List Level). Added (λ k way. At core c y true (Block a) false (from_inside k) (operand_at way c)) (open_end w).ends k) e (keep_block core coder isc.constants c y a false w (subst (BeginsAt core c y true false) (sym is) (inl refl)))).0;
  }

  loop_ending : (a : Stmt) (at : Before) (w : Work) (o : Open) (l : Level) (ls : List Level) → w.now ≡ Some o → Stands core coder isc at w → (leave_zero (lower_of core coder a (open_loop core.cells (start_needs core.exprs a o.values) w o))).ends ≡ l ∷ ls → Ending core coder isc (Loop a) at o.values l.ways
  loop_ending a at w o l ls is st e = record {
    zeros = λ c. first_ways (λ (way : CellState). At core c (Fixed (pos 0)) false (Loop a) (at.open_cell c) Falls (operand_at way c)) l (subst (λ (k : List Level). Added (λ k way. At core c (Fixed (pos 0)) false (Loop a) (at.open_cell c) (from_inside k) (operand_at way c)) (open_loop core.cells (start_needs core.exprs a o.values) w o).ends k) e (zero_loop core coder isc.constants c a (at.open_cell c) w o (cell_at core coder isc at w o c is st))).0;
    keeps = λ c. let y = operand_of o.values c in first_ways (λ (way : CellState). At core c y true (Loop a) false Falls (operand_at way c)) l (subst (λ (k : List Level). Added (λ k way. At core c y true (Loop a) false (from_inside k) (operand_at way c)) (open_loop core.cells (start_needs core.exprs a o.values) w o).ends k) e (keep_loop core coder isc.constants c y a false w o (inl refl))).0;
  }

  block_grown : (a : Stmt) (at : Before) (ends starts : List ℕ) (w : Work) (o : Open) (us : List Level) → w.now ≡ Some o → Stands core coder isc at w → (leave_zero (lower_of core coder a (open_end w))).ends ≡ us → Emits core (Seq a (Leave 0)) (open_end w) (leave_zero (lower_of core coder a (open_end w)))
      → GrownHere a at (open_cells few (after core.exprs (Block a) Falls at) ∷ ends) starts (open_end w) (lower_of core coder a (open_end w)) → GrownHere (Block a) at ends starts w (close_end core.cells us (leave_zero (lower_of core coder a (open_end w))))
  block_grown a at ends starts w o [] is st e em ga = absurd (subst (SameLevels (open_end w).ends) e em.moves.ends)
  block_grown a at ends starts w o (l ∷ ls) is st e em ga =
      let u = lower_of core coder a (open_end w) in
      let v = leave_zero u in
      let behind = open_cells few (after core.exprs (Block a) Falls at) in
      let gl = leave_paid 0 (behind ∷ ends) starts u u.now refl in
      let x = record v { ends = ls } in
      let all = join_work core.cells l.label l.ways x in
      let j = end_adds (Block a) at o.values v l ls (leave_none u u.now refl) (st.reached o is) (block_ending a at w o l ls is st e) in
      let pv = ap (λ (k : List Level). paid k (behind ∷ ends)) e in
      let pe = ap (λ (k : List Level). paid k ends) (join_ends core.cells l.label l.ways x) in
      let ph = ap (λ (k : List Level). paid k starts) (join_starts core.cells l.label l.ways x) in
      let sum = block_sum (items_in lates w) (items_in lates u) (items_in lates v) (items_in lates all) behind (behind * length l.ways) (paid w.ends ends) (paid w.starts starts) (paid u.ends (behind ∷ ends)) (paid u.starts starts) (paid v.ends (behind ∷ ends)) (paid v.starts starts) (paid ls ends) (paid v.starts starts) (weight_of few core.exprs a at (behind ∷ ends) starts) (omega (arith, ga.items)) gl.items j.items pv refl in
      record {
        items = omega (arith, sum, pe, ph);
        phis = omega (arith, ga.phis, gl.phis, j.phis);
        calls = omega (arith, ga.calls, gl.calls, j.calls);
        blocks = omega (arith, ga.blocks, gl.blocks, j.blocks);
      }

  -- the phis at the start of a loop, in the end
  pub start_phis : (kinds : List CellKind) (needs : ℕ → Bool) (w : Work) (v : Work) (es : List Level) (hd : Level) (ks : List Level) → length w.lates < length v.lates → Settles w.lates (close_end kinds es (close_start kinds needs (length w.lates) w.next (hd ∷ ks) v)).lates lates [] → lates (length w.lates) ≡ phis_for needs hd.ways kinds 0 w.next
  start_phis kinds needs w v es hd ks lt st =
      let x = close_start kinds needs (length w.lates) w.next (hd ∷ ks) v in
      let ps = phis_for needs hd.ways kinds 0 w.next in
      let st' : Settles w.lates x.lates lates [] = subst (λ (t : List (List Phi)). Settles w.lates t lates []) (close_end_lates kinds es x) st in
      st'.by (length w.lates) (omega arith) (omega (arith, lt, length-set v.lates (length w.lates) ps)) ∙ get_or-set_same v.lates (length w.lates) ps [] lt

  loop_grown : (a : Stmt) (at : Before) (ends starts : List ℕ) (w : Work) (o : Open) (us hs : List Level) → w.now ≡ Some o → Stands core coder isc at w → (leave_zero (lower_of core coder a (open_loop core.cells (start_needs core.exprs a o.values) w o))).ends ≡ us → (leave_zero (lower_of core coder a (open_loop core.cells (start_needs core.exprs a o.values) w o))).starts ≡ hs
      → Emits core (Seq a (Leave 0)) (open_loop core.cells (start_needs core.exprs a o.values) w o) (leave_zero (lower_of core coder a (open_loop core.cells (start_needs core.exprs a o.values) w o)))
      → Settles w.lates (close_end core.cells us (close_start core.cells (start_needs core.exprs a o.values) (length w.lates) w.next hs (leave_zero (lower_of core coder a (open_loop core.cells (start_needs core.exprs a o.values) w o))))).lates lates []
      → GrownHere a (loop_start core.exprs a at) (open_cells few (after core.exprs (Loop a) Falls at) ∷ ends) (open_cells few (loop_start core.exprs a at) ∷ starts) (open_loop core.cells (start_needs core.exprs a o.values) w o) (lower_of core coder a (open_loop core.cells (start_needs core.exprs a o.values) w o))
      → GrownHere (Loop a) at ends starts w (close_end core.cells us (close_start core.cells (start_needs core.exprs a o.values) (length w.lates) w.next hs (leave_zero (lower_of core coder a (open_loop core.cells (start_needs core.exprs a o.values) w o)))))
  loop_grown a at ends starts w o [] hs is st e eh em se ga = absurd (subst (SameLevels (open_loop core.cells (start_needs core.exprs a o.values) w o).ends) e em.moves.ends)
  loop_grown a at ends starts w o (l ∷ ls) [] is st e eh em se ga = absurd (subst (SameLevels (open_loop core.cells (start_needs core.exprs a o.values) w o).starts) eh em.moves.starts)
  loop_grown a at ends starts w o (l ∷ ls) (hd ∷ ks) is st e eh em se ga =
      let needs = start_needs core.exprs a o.values in
      let w1 = open_loop core.cells needs w o in
      let u = lower_of core coder a w1 in
      let v = leave_zero u in
      let first = phis_for needs (way_of w o ∷ []) core.cells 0 w.next in
      let within : length w.lates < length v.lates = omega (arith, one_longer w.lates first, em.moves.lates.long) in
      let late = start_phis core.cells needs w v (l ∷ ls) hd ks within se in
      let mid : Work = record w { done = w.done ++ closed o (Jump (length w.targets)) ∷ []; now = None } in
      let h : Open = record { phis = Late (length w.lates); body = []; values = values_for needs o.values 0 w.next } in
      let a1 = jump_adds lates w mid o (Jump (length w.targets)) is refl refl in
      let a2 = open_adds lates mid w1 h refl refl refl refl in
      let behind = open_cells few (after core.exprs (Loop a) Falls at) in
      let start = open_cells few (loop_start core.exprs a at) in
      let many = ap (λ (ps : List Phi). length ps) late ∙ phis_many needs hd.ways core.cells 0 w.next in
      let entries = ap entries_in late ∙ phis_entries needs hd.ways core.cells 0 w.next in
      let sets = start_cells core coder isc a at w o is st in
      let opens = count_less needs (loop_start core.exprs a at).open_cell 0 few (λ c q. (and_cases ((loop_start core.exprs a at).open_cell c) (assigns a c) (sets c q)).0) in
      let joins = count_less needs (λ c. (loop_start core.exprs a at).open_cell c && assigns a c) 0 few sets in
      let t = times_less (count_from needs 0 few) start (length hd.ways) opens in
      let y = close_start core.cells needs (length w.lates) w.next (hd ∷ ks) v in
      let x = record y { ends = ls } in
      let all = join_work core.cells l.label l.ways x in
      let j = end_adds (Loop a) at o.values y l ls (leave_none u u.now refl) (st.reached o is) (loop_ending a at w o l ls is st e) in
      let gl = leave_paid 0 (behind ∷ ends) (start ∷ starts) u u.now refl in
      let pv = ap (λ (k : List Level). paid k (behind ∷ ends)) e in
      let ps = ap (λ (k : List Level). paid k (start ∷ starts)) eh in
      let pe = ap (λ (k : List Level). paid k ends) (join_ends core.cells l.label l.ways x) in
      let ph = ap (λ (k : List Level). paid k starts) (join_starts core.cells l.label l.ways x) in
      let sum = loop_sum (items_in lates w) (items_in lates mid) (items_in lates w1) (items_in lates u) (items_in lates v) (items_in lates all) (entries_in (lates (length w.lates))) (start * length hd.ways) start behind (behind * length l.ways) (paid w.ends ends) (paid w.starts starts) (paid u.ends (behind ∷ ends)) (paid u.starts (start ∷ starts)) (paid v.ends (behind ∷ ends)) (paid v.starts (start ∷ starts)) (paid ls ends) (paid ks starts) (weight_of few core.exprs a (loop_start core.exprs a at) (behind ∷ ends) (start ∷ starts)) (omega (arith, a1.items)) a2.items (omega (arith, entries, t)) (omega (arith, ga.items)) gl.items j.items pv ps in
      record {
        items = omega (arith, sum, pe, ph);
        phis = omega (arith, a1.phis, a2.phis, ga.phis, gl.phis, j.phis, many, joins);
        calls = omega (arith, a1.calls, a2.calls, ga.calls, gl.calls, j.calls);
        blocks = omega (arith, a1.blocks, a2.blocks, ga.blocks, gl.blocks, j.blocks);
      }

  -- ---- choices

  fall_adds : (label : ℕ) (v : Work) (now : Option Open) → v.now ≡ now → Adds lates v (when_open now v (λ o. close v o (Jump label))) 0 0 0 0
  fall_adds label v None is = adds_none lates v
  fall_adds label v (Some o) is = jump_adds lates v (close v o (Jump label)) o (Jump label) is refl refl

  -- all that is true in one statement is true in another
  abbrev Widens : Stmt → Stmt → Type 0
  Widens first s = (c : ℕ) (y : Operand) (any b : Bool) (x : Exit) (o : Operand) → At core c y any first b x o → At core c y any s b x o

  -- what the choice as a whole may add, beside its bodies
  record Chosen (test : ℕ) (a b s : Stmt) (at : Before) (ends starts : List ℕ) (kn : ℕ) : Type 0 where
    weighs : 6 + working_nodes core.exprs (test ∷ []) + 2 * open_cells few (after core.exprs s Falls at) + weight_of few core.exprs a at ends starts + weight_of few core.exprs b at ends starts ≤ weight_of few core.exprs s at ends starts
    knotted : kn + knots_of a + knots_of b ≤ knots_of s
    joins : count_from (λ c. (after core.exprs s Falls at).open_cell c && assigns s c) 0 few + joined_of few core.exprs a at + joined_of few core.exprs b at ≤ joined_of few core.exprs s at
    called : calls_of a + calls_of b ≤ calls_of s

  first_adds : (holds : Bool) (test : ℕ) (w : Work) (o : Open) → w.now ≡ Some o → kind_at core test ≡ Some TruthKind → IsValid core.cells w → Adds lates w (open_first coder holds test w o) (2 + working_nodes core.exprs (test ∷ [])) 0 0 1
  first_adds holds test w o is kind ok =
      let c = coder (test ∷ []) o.values w.next in
      let l = coded core coder isc (test ∷ []) o.values w.next (kind_within core test TruthKind kind, tt) (now_of core.cells w o is ok) in
      let d = branch_last holds (first_operand c.operands) (length w.targets) in
      let mid : Work = record w { done = w.done ++ record { phis = o.phis; body = o.body ++ c.code; last = d } ∷ []; now = None; next = w.next + length c.code } in
      let a = close_adds lates w mid o c.code d is refl refl in
      let b = open_adds lates mid (open_first coder holds test w o) (opened o.values) refl refl refl refl in
      let q = code_work (HasCell core.cells o.values) c.code l.reads in
      let z : entries_in [] ≡ 0 = refl in
      record { items = omega (arith, a.items, b.items, l.few, z); phis = omega (arith, a.phis, b.phis); calls = omega (arith, a.calls, b.calls, q); blocks = omega (arith, a.blocks, b.blocks) }

  second_adds : (label : ℕ) (values : List Operand) (f : Work) → f.now ≡ None → Adds lates f (open_second label values f) 2 0 0 1
  second_adds label values f none =
      let a = open_adds lates f (open_second label values f) (opened values) none refl refl refl in
      let z : entries_in [] ≡ 0 = refl in
      record { items = omega (arith, a.items, z); phis = omega (arith, a.phis); calls = omega (arith, a.calls); blocks = omega (arith, a.blocks) }

  -- the sums alone: w in front, x and v around the first body, f and g behind it, u behind the second, and all behind the join
  choice_sum : (w x v f g u all nodes behind many pwe pws pve pvs pue pus wa wb ws : ℕ) → x ≤ w + (2 + nodes) → v + pve + pvs ≤ x + pwe + pws + wa → f ≤ v → g ≤ f + 2 → u + pue + pus ≤ g + pve + pvs + wb → all ≤ u + (2 + many) → many ≤ 2 * behind → 6 + nodes + 2 * behind + wa + wb ≤ ws → all + pue + pus ≤ w + pwe + pws + ws
  choice_sum w x v f g u all nodes behind many pwe pws pve pvs pue pus wa wb ws h1 h2 h3 h4 h5 h6 h7 h8 = omega (arith, h1, h2, h3, h4, h5, h6, h7, h8)

  now_map : (y : Operand) (c : ℕ) (r p r' p' : Bool) → ((o : Operand) → Good y r p o → Good y r' p' o) → (now : Option Open) → NowGood y c r p now → NowGood y c r' p' now
  now_map y c r p r' p' f None h = tt
  now_map y c r p r' p' f (Some o) h = f (operand_of o.values c) h

  module _ (test : ℕ) (a b s : Stmt) (holds : Bool) (at : Before) (ends starts : List ℕ) (kn : ℕ) (w : Work) (o : Open) (is : w.now ≡ Some o) (ok : IsValid core.cells w) (kind : kind_at core test ≡ Some TruthKind) (st : Stands core coder isc at w) (ch : Chosen test a b s at ends starts kn) (two : 2 ≤ kn) (three : reaches a Falls ≡ true → 3 ≤ kn) (wide_a : Widens a s) (wide_b : Widens b s) where
    abbrev own_label : ℕ
    own_label = length w.targets

    abbrev one : Work
    one = open_first coder holds test w o

    abbrev v : Work
    v = lower_of core coder a one

    abbrev f : Work
    f = fall_work (own_label + 2) v

    abbrev g : Work
    g = open_second (own_label + 1) o.values f

    abbrev u : Work
    u = lower_of core coder b g

    cell : (c : ℕ) → (operand_of o.values c ≡ Fixed (pos 0)) ⊎ (at.open_cell c ≡ true)
    cell c = cell_at core coder isc at w o c is st

    zero_v : (c : ℕ) → NowAt core c (Fixed (pos 0)) false a (at.open_cell c) v.now
    zero_v c = (zero_flows core coder isc.constants c a (at.open_cell c) one (cell c)).now

    zero_u : (c : ℕ) → NowAt core c (Fixed (pos 0)) false b (at.open_cell c) u.now
    zero_u c = (zero_flows core coder isc.constants c b (at.open_cell c) g (cell c)).now

    keep_v : (c : ℕ) → NowAt core c (operand_of o.values c) true a false v.now
    keep_v c = (keep_flows core coder isc.constants c (operand_of o.values c) a false one (inl refl)).now

    keep_u : (c : ℕ) → NowAt core c (operand_of o.values c) true b false u.now
    keep_u c = (keep_flows core coder isc.constants c (operand_of o.values c) b false g (inl refl)).now

    reach_of : (p : Open) → v.now ≡ Some p → reaches a Falls ≡ true
    reach_of p some = (subst (NowAt core 0 (Fixed (pos 0)) false a (at.open_cell 0)) some (zero_v 0)).0

    ending : (p : Open) → v.now ≡ Some p → Ending core coder isc s at o.values (way_of v p ∷ fall_ways u u.now)
    ending p some = record {
      zeros = λ c. (
        wide_a c (Fixed (pos 0)) false (at.open_cell c) Falls (operand_of p.values c) (subst (NowAt core c (Fixed (pos 0)) false a (at.open_cell c)) some (zero_v c)),
        fallen_good (Fixed (pos 0)) c (reaches s Falls) (open_at core c (Fixed (pos 0)) false s (at.open_cell c) Falls) u u.now (now_map (Fixed (pos 0)) c (reaches b Falls) (open_at core c (Fixed (pos 0)) false b (at.open_cell c) Falls) (reaches s Falls) (open_at core c (Fixed (pos 0)) false s (at.open_cell c) Falls) (wide_b c (Fixed (pos 0)) false (at.open_cell c) Falls) u.now (zero_u c)),
      );
      keeps = λ c. let y = operand_of o.values c in (
        wide_a c y true false Falls (operand_of p.values c) (subst (NowAt core c y true a false) some (keep_v c)),
        fallen_good y c (reaches s Falls) (open_at core c y true s false Falls) u u.now (now_map y c (reaches b Falls) (open_at core c y true b false Falls) (reaches s Falls) (open_at core c y true s false Falls) (wide_b c y true false Falls) u.now (keep_u c)),
      );
    }

    -- up to the end of the second body
    record Bodies : Type 0 where
      items : (all many : ℕ) → all ≤ items_in lates u + (2 + many) → many ≤ 2 * open_cells few (after core.exprs s Falls at) → all + paid u.ends ends + paid u.starts starts ≤ items_in lates w + paid w.ends ends + paid w.starts starts + weight_of few core.exprs s at ends starts
      phis : phis_counted lates u ≤ phis_counted lates w + joined_of few core.exprs a at + joined_of few core.exprs b at
      calls : calls_in lates u ≤ calls_in lates w + calls_of a + calls_of b
      blocks : blocks_in lates u ≤ blocks_in lates w + 2 + knots_of a + knots_of b

    bodies : GrownHere a at ends starts one v → GrownHere b at ends starts g u → Bodies
    bodies ga gb =
        let a1 = first_adds holds test w o is kind ok in
        let a3 = fall_adds (own_label + 2) v v.now refl in
        let a4 = second_adds (own_label + 1) o.values f (fall_none (own_label + 2) v v.now refl) in
        let pe = ap (λ (k : List Level). paid k ends) (fall_ends (own_label + 2) v v.now) in
        let ph = ap (λ (k : List Level). paid k starts) (fall_starts (own_label + 2) v v.now) in
        record {
          items = λ all many le less. choice_sum (items_in lates w) (items_in lates one) (items_in lates v) (items_in lates f) (items_in lates g) (items_in lates u) all (working_nodes core.exprs (test ∷ [])) (open_cells few (after core.exprs s Falls at)) many (paid w.ends ends) (paid w.starts starts) (paid v.ends ends) (paid v.starts starts) (paid u.ends ends) (paid u.starts starts) (weight_of few core.exprs a at ends starts) (weight_of few core.exprs b at ends starts) (weight_of few core.exprs s at ends starts) a1.items ga.items (omega (arith, a3.items)) a4.items (omega (arith, gb.items, pe, ph)) le less ch.weighs;
          phis = omega (arith, a1.phis, ga.phis, a3.phis, a4.phis, gb.phis);
          calls = omega (arith, a1.calls, ga.calls, a3.calls, a4.calls, gb.calls);
          blocks = omega (arith, a1.blocks, ga.blocks, a3.blocks, a4.blocks, gb.blocks);
        }

    choice_grown : GrownHere a at ends starts one v → GrownHere b at ends starts g u → (now : Option Open) → v.now ≡ now → GrownHere s at ends starts w (join_bodies core.cells (own_label + 2) (fall_ways v now) u)
    choice_grown ga gb None none =
        let r = bodies ga gb in
        record { items = r.items (items_in lates u) 0 (omega arith) (omega arith); phis = omega (arith, r.phis, ch.joins); calls = omega (arith, r.calls, ch.called); blocks = omega (arith, r.blocks, ch.knotted, two) }
    choice_grown ga gb (Some p) some =
        let r = bodies ga gb in
        let last = fall_work (own_label + 2) u in
        let ways = way_of v p ∷ fall_ways u u.now in
        let all = join_work core.cells (own_label + 2) ways last in
        let behind = open_cells few (after core.exprs s Falls at) in
        let a6 = fall_adds (own_label + 2) u u.now refl in
        let a7 = join_adds lates core.cells (own_label + 2) ways last (after core.exprs s Falls at).open_cell (assigns s) (fall_none (own_label + 2) u u.now refl) (ending_differs core coder isc s at o.values ways (st.reached o is) (ending p some)) in
        let most = times_two behind (length ways) (fall_ways_long u u.now (way_of v p)) in
        let pe = ap (λ (k : List Level). paid k ends) (join_ends core.cells (own_label + 2) ways last ∙ fall_ends (own_label + 2) u u.now) in
        let ph = ap (λ (k : List Level). paid k starts) (join_starts core.cells (own_label + 2) ways last ∙ fall_starts (own_label + 2) u u.now) in
        let i = r.items (items_in lates all) (behind * length ways) (omega (arith, a6.items, a7.items)) most in
        let k3 = three (reach_of p some) in
        record { items = omega (arith, i, pe, ph); phis = omega (arith, r.phis, a6.phis, a7.phis, ch.joins); calls = omega (arith, r.calls, a6.calls, a7.calls, ch.called); blocks = omega (arith, r.blocks, a6.blocks, a7.blocks, ch.knotted, k3) }

  -- the settled late phis of the two bodies
  pub record BothSettle (w v g u : Work) : Type 0 where
    pub first : Settles w.lates v.lates lates []
    pub second : Settles g.lates u.lates lates []

  pub both_settle : (a b : Stmt) (w one : Work) (label : ℕ) (values : List Operand) → one.lates ≡ w.lates → Settles w.lates (two_bodies core.cells label values (lower_of core coder a one) (lower_of core coder b)).lates lates []
      → BothSettle w (lower_of core coder a one) (open_second (label + 1) values (fall_work (label + 2) (lower_of core coder a one))) (lower_of core coder b (open_second (label + 1) values (fall_work (label + 2) (lower_of core coder a one))))
  both_settle a b w one label values e st =
      let v = lower_of core coder a one in
      let f = fall_work (label + 2) v in
      let g = open_second (label + 1) values f in
      let u = lower_of core coder b g in
      let same : f.lates ≡ v.lates = fall_lates (label + 2) v v.now in
      let grown_b : Grows v.lates u.lates [] = subst (λ (t : List (List Phi)). Grows t u.lates []) same (lates_grow core coder b g) in
      let grown_a : Grows w.lates v.lates [] = subst (λ (t : List (List Phi)). Grows t v.lates []) e (lates_grow core coder a one) in
      let st_u : Settles w.lates u.lates lates [] = subst (λ (t : List (List Phi)). Settles w.lates t lates []) (bodies_lates core.cells (label + 2) (fall_ways v v.now) u) st in
      record {
        first = settles_left w.lates v.lates u.lates lates [] grown_b st_u;
        second = subst (λ (t : List (List Phi)). Settles t u.lates lates []) (sym same) (settles_right w.lates v.lates u.lates lates [] grown_a st_u);
      }

  -- the second body begins well
  pub second_valid : (test : ℕ) (a : Stmt) (holds : Bool) (w : Work) (o : Open) → w.now ≡ Some o → IsValid core.cells w → Emits core a (open_first coder holds test w o) (lower_of core coder a (open_first coder holds test w o)) → IsValid core.cells (open_second (length w.targets + 1) o.values (fall_work (length w.targets + 2) (lower_of core coder a (open_first coder holds test w o))))
  second_valid test a holds w o is ok ea =
      let v = lower_of core coder a (open_first coder holds test w o) in
      let fell = fallen core.cells (length w.targets + 2) v v.now refl ea.valid in
      let more : w.next ≤ w.next + length (coder (test ∷ []) o.values w.next).code = omega arith in
      open_second_valid core.cells (length w.targets + 1) w.next o.values (fall_work (length w.targets + 2) v) (now_of core.cells w o is ok) (omega (arith, fell.next, ea.moves.next, more)) fell.valid

  pub second_levels : (test : ℕ) (a b : Stmt) (holds : Bool) (w : Work) (o : Open) → Emits core a (open_first coder holds test w o) (lower_of core coder a (open_first coder holds test w o)) → HasLevels b (length w.ends) (length w.starts)
      → HasLevels b (length (fall_work (length w.targets + 2) (lower_of core coder a (open_first coder holds test w o))).ends) (length (fall_work (length w.targets + 2) (lower_of core coder a (open_first coder holds test w o))).starts)
  second_levels test a b holds w o ea l =
      let v = lower_of core coder a (open_first coder holds test w o) in
      let f = fall_work (length w.targets + 2) v in
      let fell = fallen core.cells (length w.targets + 2) v v.now refl ea.valid in
      levels_same b w f (same_then w.ends v.ends f.ends ea.moves.ends fell.moves.ends) (same_then w.starts v.starts f.starts ea.moves.starts fell.moves.starts) l

  pub grows : (s : Stmt) (w : Work) (at : Before) (ends starts : List ℕ) → IsFit core s → HasLevels s (length w.ends) (length w.starts) → IsValid core.cells w → Stands core coder isc at w → Settles w.lates (lower_of core coder s w).lates lates [] → GrownHere s at ends starts w (lower_of core coder s w)
  grows Skip w at ends starts fit l ok st se = grown_none Skip at ends starts w
  grows (Seq a b) w at ends starts fit l ok st se =
      let u = lower_of core coder a w in
      let v = lower_of core coder b u in
      let ea = emits carry keep core coder isc a w fit.0 l.0 ok in
      let x = grows a w at ends starts fit.0 l.0 ok st (settles_left w.lates u.lates v.lates lates [] (lates_grow core coder b u) se) in
      let y = grows b u (after core.exprs a Falls at) ends starts fit.1 (levels_same b w u ea.moves.ends ea.moves.starts l.1) ea.valid (stands_after core coder isc a at w w.now refl st) (settles_right w.lates u.lates v.lates lates [] (lates_grow core coder a w) se) in
      record { items = omega (arith, x.items, y.items); phis = omega (arith, x.phis, y.phis); calls = omega (arith, x.calls, y.calls); blocks = omega (arith, x.blocks, y.blocks) }
  grows (Assign pairs) w at ends starts fit l ok st se = grown_when (Assign pairs) at ends starts w (assign_work coder pairs w) w.now refl se (λ o is se'.
      let c = coder (pair_exprs pairs) o.values w.next in
      let k = coded core coder isc (pair_exprs pairs) o.values w.next (pairs_within core pairs (recursion_from_All (PairFits core) pairs fit)) (now_of core.cells w o is ok) in
      grown_adds (Assign pairs) at ends starts w (assign_work coder pairs w o) (length c.code) (sum_by work_in c.code) (code_adds lates w (assign_work coder pairs w o) o c.code (stored pairs c.operands o.values) is refl refl) refl refl k.few (omega (arith, code_work (HasCell core.cells o.values) c.code k.reads)))
  grows (Gate leaf) w at ends starts fit l ok st se = grown_when (Gate leaf) at ends starts w (gate_work coder leaf w) w.now refl se (λ o is se'.
      let c = coder (leaf_exprs leaf) o.values w.next in
      let i = gate_call leaf c.operands in
      let k = coded core coder isc (leaf_exprs leaf) o.values w.next (leaf_within core leaf fit.0) (now_of core.cells w o is ok) in
      let code = c.code ++ i ∷ [] in
      let many = length-append c.code (i ∷ []) in
      let calls = sum_by-append work_in c.code (i ∷ []) in
      let last = sum_by-cons work_in i [] in
      let none : sum_by work_in [] ≡ 0 = refl in
      grown_adds (Gate leaf) at ends starts w (gate_work coder leaf w o) (length code) (sum_by work_in code) (code_adds lates w (gate_work coder leaf w o) o code o.values is refl refl) refl refl (omega (arith, k.few, many)) (omega (arith, calls, last, none, one_work i, code_work (HasCell core.cells o.values) c.code k.reads)))
  grows (Reset qubit) w at ends starts fit l ok st se = grown_when (Reset qubit) at ends starts w (reset_work qubit w) w.now refl se (λ o is se'.
      grown_adds (Reset qubit) at ends starts w (reset_work qubit w o) 1 1 (code_adds lates w (reset_work qubit w o) o (reset_call qubit ∷ []) o.values is refl refl) refl refl (omega arith) (omega arith))
  grows (Measure qubit None) w at ends starts fit l ok st se = grown_when (Measure qubit None) at ends starts w (measure_work qubit None w) w.now refl se (λ o is se'.
      grown_adds (Measure qubit None) at ends starts w (measure_work qubit None w o) 1 1 (code_adds lates w (measure_work qubit None w o) o (measure_call qubit w.results ∷ []) o.values is refl refl) refl refl (omega arith) (omega arith))
  grows (Measure qubit (Some c)) w at ends starts fit l ok st se = grown_when (Measure qubit (Some c)) at ends starts w (measure_work qubit (Some c) w) w.now refl se (λ o is se'.
      grown_adds (Measure qubit (Some c)) at ends starts w (measure_work qubit (Some c) w o) 2 1 (code_adds lates w (measure_work qubit (Some c) w o) o (measure_call qubit w.results ∷ read_call w.next w.results ∷ []) (slice_set o.values c (Register w.next)) is refl refl) refl refl (omega arith) (omega arith))
  grows (If test a b) w at ends starts fit l ok st se =
      grown_when (If test a b) at ends starts w (λ o. if reaches b Falls then two_bodies core.cells (length w.targets) o.values (lower_of core coder a (open_first coder true test w o)) (lower_of core coder b) else two_bodies core.cells (length w.targets) o.values (lower_of core coder b (open_first coder false test w o)) (lower_of core coder a)) w.now refl se (λ o is se'.
      let n0 = length w.targets in
      let x1 = open_first coder true test w o in
      let x2 = open_first coder false test w o in
      let v1 = lower_of core coder a x1 in
      let v2 = lower_of core coder b x2 in
      let o1 = open_first_valid core.cells coder true test w o is ok in
      let o2 = open_first_valid core.cells coder false test w o is ok in
      let e1 = emits carry keep core coder isc a x1 fit.1 l.0 o1 in
      let e2 = emits carry keep core coder isc b x2 fit.2 l.1 o2 in
      let g1 = open_second (n0 + 1) o.values (fall_work (n0 + 2) v1) in
      let g2 = open_second (n0 + 1) o.values (fall_work (n0 + 2) v2) in
      let k1 = second_valid test a true w o is ok e1 in
      let k2 = second_valid test b false w o is ok e2 in
      let kn = if reaches a Falls && reaches b Falls then 3 else 2 in
      let side : (holds : Bool) → Stands core coder isc at (open_first coder holds test w o) = λ holds. record { reached = λ p h. st.reached o is; cells = λ c. cell_at core coder isc at w o c is st } in
      let other : (f : Work) → Stands core coder isc at (open_second (n0 + 1) o.values f) = λ f. record { reached = λ p h. st.reached o is; cells = λ c. cell_at core coder isc at w o c is st } in
      grown_either (If test a b) at ends starts w (two_bodies core.cells n0 o.values v1 (lower_of core coder b)) (two_bodies core.cells n0 o.values v2 (lower_of core coder a)) (reaches b Falls)
      (λ rb s'.
      let both = both_settle a b w x1 n0 o.values refl s' in
      choice_grown test a b (If test a b) true at ends starts kn w o is ok fit.0 st (record { weighs = omega arith; knotted = omega arith; joins = omega arith; called = omega arith }) (two_least (reaches a Falls && reaches b Falls)) (λ ra. three_least (reaches a Falls && reaches b Falls) (and_both (reaches a Falls) (reaches b Falls) ra rb)) (λ c y any p x q h. if_left core c y any test a b p x q h) (λ c y any p x q h. if_right core c y any test a b p x q h)
      (grows a x1 at ends starts fit.1 l.0 o1 (side true) both.first) (grows b g1 at ends starts fit.2 (second_levels test a b true w o e1 l.1) k1 (other (fall_work (n0 + 2) v1)) both.second) v1.now refl)
      (λ rb s'.
      let both = both_settle b a w x2 n0 o.values refl s' in
      choice_grown test b a (If test a b) false at ends starts kn w o is ok fit.0 st (record { weighs = omega arith; knotted = omega arith; joins = omega arith; called = omega arith }) (two_least (reaches a Falls && reaches b Falls)) (λ ra. absurd (cc (ra, rb))) (λ c y any p x q h. if_right core c y any test a b p x q h) (λ c y any p x q h. if_left core c y any test a b p x q h)
      (grows b x2 at ends starts fit.2 l.1 o2 (side false) both.first) (grows a g2 at ends starts fit.1 (second_levels test b a false w o e2 l.0) k2 (other (fall_work (n0 + 2) v2)) both.second) v2.now refl)
      se')
  grows (Block a) w at ends starts fit l ok st se = grown_when (Block a) at ends starts w (λ o. let v = leave_zero (lower_of core coder a (open_end w)) in close_end core.cells v.ends v) w.now refl se (λ o is se'.
      let w1 = open_end w in
      let u = lower_of core coder a w1 in
      let v = leave_zero u in
      let ok1 = open_end_valid core.cells w ok in
      let em = emits carry keep core coder isc a w1 fit l ok1 in
      let inner : Settles w.lates u.lates lates [] = subst (λ (t : List (List Phi)). Settles w.lates t lates []) (close_end_lates core.cells v.ends v ∙ leave_lates 0 u u.now) se' in
      block_grown a at ends starts w o v.ends is st refl (body_emits carry keep core coder isc a w1 u (omega arith) em) (grows a w1 at (open_cells few (after core.exprs (Block a) Falls at) ∷ ends) starts fit l ok1 (record { reached = st.reached; cells = st.cells }) inner))
  grows (Loop a) w at ends starts fit l ok st se =
      grown_when (Loop a) at ends starts w (λ o.
      let needs = start_needs core.exprs a o.values in
      let v = leave_zero (lower_of core coder a (open_loop core.cells needs w o)) in
      close_end core.cells v.ends (close_start core.cells needs (length w.lates) w.next v.starts v)) w.now refl se (λ o is se'.
      let needs = start_needs core.exprs a o.values in
      let w1 = open_loop core.cells needs w o in
      let u = lower_of core coder a w1 in
      let v = leave_zero u in
      let ok1 = open_loop_valid core.cells needs w o is ok in
      let em = emits carry keep core coder isc a w1 fit l ok1 in
      let kept = loop_lates lates core.cells needs w o u v v.ends v.starts (leave_lates 0 u u.now) (lates_grow core coder a w1) se' in
      loop_grown a at ends starts w o v.ends v.starts is st refl refl (body_emits carry keep core coder isc a w1 u (omega arith) em) se' (grows a w1 (loop_start core.exprs a at) (open_cells few (after core.exprs (Loop a) Falls at) ∷ ends) (open_cells few (loop_start core.exprs a at) ∷ starts) fit l ok1 (stands_start core coder isc a at w o is st) kept.inner))
  grows (Leave k) w at ends starts fit l ok st se =
      let a = leave_paid k ends starts w w.now refl in
      record { items = omega (arith, a.items); phis = omega (arith, a.phis); calls = omega (arith, a.calls); blocks = omega (arith, a.blocks) }
  grows (Again k) w at ends starts fit l ok st se =
      let a = again_paid k ends starts w w.now refl in
      record { items = omega (arith, a.items); phis = omega (arith, a.phis); calls = omega (arith, a.calls); blocks = omega (arith, a.blocks) }

-- ---- the module

module _ (labels : ℕ → ℕ) (lates : ℕ → List Phi) where
  settled_sum : (f : ModuleBlock → ℕ) (g : Draft → ℕ) → ((k : ℕ) (d : Draft) → f (settled labels lates k d) ≡ g d) → (k : ℕ) (ds : List Draft) → sum_by f (settled_from labels lates k ds) ≡ sum_by g ds
  settled_sum f g same k [] = refl
  settled_sum f g same k (d ∷ ds) =
      let r = settled_sum f g same (suc k) ds in
      let p = sum_by-cons f (settled labels lates k d) (settled_from labels lates (suc k) ds) in
      let q = sum_by-cons g d ds in
      let e = same k d in
      omega (arith, r, p, q, e)

  blocks_settled : (k : ℕ) (ds : List Draft) → length (settled_from labels lates k ds) ≡ sum_by (counted_draft 1 no_phis no_code lates) ds
  blocks_settled k [] = refl
  blocks_settled k (d ∷ ds) =
      let r = blocks_settled (suc k) ds in
      let q = sum_by-cons (counted_draft 1 no_phis no_code lates) d ds in
      let z = none_sum lates d.body in
      omega (arith, r, q, z)

  items_same : (k : ℕ) (d : Draft) → block_items (settled labels lates k d) ≡ counted_draft 2 entries_in one_each lates d
  items_same k d = let o = ones d.body in omega (arith, o)

  phis_same : (k : ℕ) (d : Draft) → length (settled labels lates k d).phis ≡ counted_draft 0 phis_in no_code lates d
  phis_same k d = let z = none_sum lates d.body in omega (arith, z)

  calls_same : (k : ℕ) (d : Draft) → sum_by work_in (settled labels lates k d).body ≡ counted_draft 0 no_phis work_in lates d
  calls_same k d = omega arith

record_work : (values : List Operand) (o : Output) → work_in (record_call values o) ≡ 0
record_work values (ArrayOutput label size) = refl
record_work values (TruthOutput label c) = refl
record_work values (NumberOutput label c) = refl

records_work : (values : List Operand) (outputs : List Output) → sum_by work_in (map (record_call values) outputs) ≡ 0
records_work values [] = refl
records_work values (o ∷ outputs) =
    let r = records_work values outputs in
    let p = sum_by-cons work_in (record_call values o) (map (record_call values) outputs) in
    let q = record_work values o in
    omega (arith, r, p, q)

records_many : (values : List Operand) (outputs : List Output) → length (map (record_call values) outputs) ≡ length outputs
records_many values [] = refl
records_many values (o ∷ outputs) = ap suc (records_many values outputs)

ended_adds : (lates : ℕ → List Phi) (outputs : List Output) (v : Work) (now : Option Open) → v.now ≡ now → Adds lates v (when_open now v (end_work outputs v)) (length outputs) 0 0 0
ended_adds lates outputs v None is = adds_more lates v v 0 0 0 0 (length outputs) 0 0 0 (omega arith) (omega arith) (omega arith) (omega arith) (adds_none lates v)
ended_adds lates outputs v (Some o) is =
    let code = map (record_call o.values) outputs in
    let a = close_adds lates v (end_work outputs v o) o code (Return (pos 0)) is refl refl in
    let m = records_many o.values outputs in
    let z = records_work o.values outputs in
    record { items = omega (arith, a.items, m); phis = omega (arith, a.phis); calls = omega (arith, a.calls, z); blocks = omega (arith, a.blocks) }

-- the first block, with the call that initializes
pub record IsSmall (lates : ℕ → List Phi) (w : Work) : Type 0 where
  pub items : items_in lates w ≡ 3
  pub phis : phis_counted lates w ≡ 0
  pub calls : calls_in lates w ≡ 0
  pub blocks : blocks_in lates w ≡ 1

pub first_small : (lates : ℕ → List Phi) (cells : ℕ) → IsSmall lates (first_work cells)
first_small lates cells = record { items = refl; phis = refl; calls = refl; blocks = refl }

-- up to the end of the program
pub program_grown : WaysCarry → SameWhereNotDiffer → (core : Core) (coder : Coder) → IsLowerable core coder → Grown (late_phis core coder) (length core.cells) core.exprs (program_of core) begin [] [] (first_work (length core.cells)) (lower_of core coder (program_of core) (first_work (length core.cells)))
program_grown carry keep core coder l =
    let w = first_work (length core.cells) in
    let stands : Stands core coder l.coder_fits begin w = record { reached = λ o e. refl; cells = λ c. inl (zero_at (length core.cells) c) } in
    grows carry keep core coder l.coder_fits (late_phis core coder) (program_of core) w begin [] [] (program_fits core l.fits l.held) l.fits.well_formed.levels (first_valid core.cells) stands (program_settles core coder)

pub is_within : WaysCarry → SameWhereNotDiffer → (core : Core) (coder : Coder) → IsLowerable core coder → IsWithin core (lowered core coder)
is_within carry keep core coder l =
    let w = first_work (length core.cells) in
    let v = lower_of core coder (program_of core) w in
    let z = whole_work core coder in
    let labels : ℕ → ℕ = λ k. get_or z.targets k 0 in
    let lates = late_phis core coder in
    let g = program_grown carry keep core coder l in
    let a = ended_adds lates core.outputs v v.now refl in
    let none : z.now ≡ None = end_none core.outputs v v.now refl in
    let s = first_small lates (length core.cells) in
    let items = settled_sum labels lates block_items (counted_draft 2 entries_in one_each lates) (items_same labels lates) 0 z.done in
    let phis = settled_sum labels lates (λ (b : ModuleBlock). length b.phis) (counted_draft 0 phis_in no_code lates) (phis_same labels lates) 0 z.done in
    let calls = settled_sum labels lates (λ (b : ModuleBlock). sum_by work_in b.body) (counted_draft 0 no_phis work_in lates) (calls_same labels lates) 0 z.done in
    let blocks = blocks_settled labels lates 0 z.done in
    let ni = ap (counted_now 2 entries_in one_each lates) none in
    let np = ap (counted_now 0 phis_in no_code lates) none in
    let nc = ap (counted_now 0 no_phis work_in lates) none in
    let nb = ap (counted_now 1 no_phis no_code lates) none in
    let nobody : paid [] [] ≡ 0 = refl in
    record {
      items = omega (arith, g.items, a.items, s.items, items, ni, nobody);
      blocks = omega (arith, g.blocks, a.blocks, s.blocks, blocks, nb);
      phis = omega (arith, g.phis, a.phis, s.phis, phis, np);
      calls = omega (arith, g.calls, a.calls, s.calls, calls, nc);
    }
