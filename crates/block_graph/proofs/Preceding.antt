-- The predecessors of each block are those that its phis name, and one of them stands earlier.
use Rattle.std.proofs.Common.{◌≡◌, ◌≢◌, ℕ, zero, suc, ◌+◌, ◌<◌, ◌≤◌, nat_eq, if◌then◌else◌, Bool, true, false, not, ◌&&◌, ◌||◌, List, [], ◌∷◌, ◌++◌, map, length, get_or, pos, Option, Some, None, refl, sym, ap, ◌∙◌, subst, arith, append_assoc, append-nil, eq-eqb, eqb-true, ne_eqb}
use Rattle.std.specs.Prelude.{slice_get, filter, count_by, cond}
use Rattle.std.specs.List.{list_all, AllByRecursion}
use Rattle.std.proofs.lemmas.Option.{slice_get_within}
use Rattle.std.proofs.lemmas.List.Sums.{sum_by-cons}
use Rattle.qir_module.specs.declared.instruction.Operand.{Operand}
use Rattle.qir_module.specs.declared.instruction.Instr.{Instr}
use Rattle.qir_module.specs.declared.instruction.Last.{Last}
use Rattle.qir_module.specs.declared.instruction.Last.TheVariants.{Jump, Branch, Return}
use Rattle.qir_module.specs.declared.block.Phi.{Phi}
use Rattle.qir_module.specs.declared.block.Block.{Block as ModuleBlock}
use Rattle.qir_module.specs.Module.{Module}
use Rattle.qir_module.specs.Carried.{targets_of, jumps_to, is_way, earlier, is_empty}
use Rattle.qir_module.specs.Numbered.{is_among}
use Rattle.qir_module.specs.Spots.{Item, ThePhi, TheInstr, TheLast, Spot}
use Rattle.qir_module.specs.Passes.{IsKept, block_names, predecessors, names_each_once, entry_names, phis_kept, earlier_way_kept}
use Rattle.core_ir.specs.declared.program.Output.{Output}
use Rattle.core_ir.specs.Core.{Core}
use Rattle.core_ir.specs.Tree.{program_of}
use Rattle.phi_place.specs.State.{CellState}
use Rattle.phi_place.specs.Phis.{WaysCarry, SameWhereNotDiffer}
use Rattle.block_graph.specs.Laws.{IsLowerable, KeepsWayRules}
use Rattle.block_graph.specs.Work.{PhiPart, Draft, Open, Work}
use Rattle.block_graph.specs.Lowering.{Coder, record_call, first_work, lower_of, when_open, end_work, whole_work, settled_phis, settled_last, settled, settled_from, lowered}
use Rattle.block_graph.proofs.Coding.{both}
use Rattle.block_graph.proofs.Walking.{late_phis, end_none, program_settles}
use Rattle.block_graph.proofs.Spotting.{spot_at, each_spot, all_middle, all_items, all_true}
use Rattle.block_graph.proofs.Flow.{or_left, or_right}
use Rattle.block_graph.proofs.Moving.{phi_list, draft_phis, now_phis}
use Rattle.block_graph.proofs.Emitting.{closed_phis}
use Rattle.block_graph.proofs.Looping.{drafted, some_block}
use Rattle.block_graph.proofs.Jumps.{once, jumps_in, named, named_kept, named_within, times, Exact}
use Rattle.block_graph.proofs.Tables.{blocks_opened, pushed}
use Rattle.block_graph.proofs.Entering.{blocks_of_ways, EntriesAre, Keeps, EnteredAt, entered_by, enters}
use Rattle.block_graph.proofs.Returning.{records_rule}
use Rattle.block_graph.proofs.Ruling.{filter_keeps, start_true}
use Rattle.block_graph.proofs.Targets.{NoLabel, start_table, LabelsSettled, labels_settled, settled_long, targets_rule}
use Rattle.block_graph.proofs.Whole.{settled_get, first_valid, is_graph, program_fits}

-- ---- the blocks of the whole

return_keeps : (outputs : List Output) (v : Work) (n : Option Open) (l : ℕ) → v.now ≡ n → Keeps v (when_open n v (end_work outputs v)) l
return_keeps outputs v None l is = record { long = omega arith; target = refl; names = λ k. refl; phis = ([], sym (append-nil (phi_list v))) }
return_keeps outputs v (Some o) l is =
    let d : Draft = record { phis = o.phis; body = o.body ++ map (record_call o.values) outputs; last = Return (pos 0) } in
    record { long = omega arith; target = refl; names = λ k. named_kept l v.done d k refl; phis = closed_phis v o d is refl }

return_opened : (outputs : List Output) (v : Work) (n : Option Open) → v.now ≡ n → length (when_open n v (end_work outputs v)).done ≡ blocks_opened n (length v.done)
return_opened outputs v None is = refl
return_opened outputs v (Some o) is = pushed v.done (record { phis = o.phis; body = o.body ++ map (record_call o.values) outputs; last = Return (pos 0) })

all_entered : WaysCarry → SameWhereNotDiffer → (core : Core) (coder : Coder) → IsLowerable core coder → (b : ℕ) → 0 < b → b < length (whole_work core coder).done → EnteredAt (late_phis core coder) 0 (whole_work core coder) b
all_entered carry keeps core coder l b lt within =
    let lates = late_phis core coder in
    let w = first_work (length core.cells) in
    let v = lower_of core coder (program_of core) w in
    let z = whole_work core coder in
    let e = enters lates carry keeps core coder l.coder_fits (program_of core) w NoLabel (program_fits core l.fits l.held) l.fits.well_formed.levels (first_valid core.cells) (start_table (length core.cells)) (program_settles core coder) b (omega (arith, lt)) (omega (arith, within, return_opened core.outputs v v.now refl)) in
    entered_by lates 0 0 v z b e (omega arith) (return_keeps core.outputs v v.now e.label refl)

-- ---- the ways between blocks

module _ (z : Work) (lates : ℕ → List Phi) (st : LabelsSettled z) where
  abbrev labels : ℕ → ℕ
  labels l = get_or z.targets l 0

  -- a jump to the label of a block is one to the block
  one_edge : (label other b : ℕ) → labels label ≡ b → 0 < b → nat_eq b (labels other) ≡ nat_eq label other
  one_edge label other b e lt = at (nat_eq label other) refl
    where
      at : (n : Bool) → nat_eq label other ≡ n → nat_eq b (labels other) ≡ n
      at true h = eq-eqb b (labels other) (sym e ∙ ap labels (eqb-true label other h))
      at false h = ne_eqb b (labels other) (λ q. cc (h, eq-eqb label other (st.own label other (subst (λ (k : ℕ). 0 < k) (sym e) lt) (e ∙ q))))

  edge : (label b : ℕ) (last : Last) → labels label ≡ b → 0 < b → is_among (targets_of (settled_last labels last)) b ≡ is_among (targets_of last) label
  edge label b (Jump to) e lt = ap (λ (x : Bool). x || false) (one_edge label to b e lt)
  edge label b (Branch test first second) e lt = ap (λ (x : Bool). x || (nat_eq b (labels second) || false)) (one_edge label first b e lt) ∙ ap (λ (x : Bool). nat_eq label first || (x || false)) (one_edge label second b e lt)
  edge label b (Return code) e lt = refl

  -- ---- the predecessors of a block, by the label that it has

  module _ (label b : ℕ) (target : labels label ≡ b) (later : 0 < b) (ways : List CellState) (exact : Exact label ways z.done) where
    abbrev leads : ModuleBlock → Bool
    leads p = is_among (targets_of p.last) b

    leads_named : (k : ℕ) (d : Draft) → slice_get z.done k ≡ Some d → leads (settled labels lates k d) ≡ named label z.done k
    leads_named k d is = edge label b d.last target later ∙ sym (ap (λ (o : Option Draft). jumps_in o label) is)

    count_times : (n : ℕ) (ws : List CellState) → count_by (nat_eq n) (blocks_of_ways ws) ≡ times n ws
    count_times n [] = refl
    count_times n (w ∷ ws) = sum_by-cons (λ x. cond (nat_eq n x) 1 0) w.block (blocks_of_ways ws) ∙ at (nat_eq n w.block) (count_times n ws)
      where
        at : (c : Bool) → count_by (nat_eq n) (blocks_of_ways ws) ≡ times n ws → cond c 1 0 + count_by (nat_eq n) (blocks_of_ways ws) ≡ (if c then suc (times n ws) else times n ws)
        at true e = omega (arith, e)
        at false e = omega (arith, e)

    each_once : (j : ℕ) (ds : List Draft) → ((i : ℕ) → slice_get z.done (j + i) ≡ slice_get ds i) → list_all (λ n. nat_eq (count_by (nat_eq n) (blocks_of_ways ways)) 1) (block_names (filter leads (settled_from labels lates j ds))) ≡ true
    each_once j [] same = refl
    each_once j (d ∷ ds) same = at (leads (settled labels lates j d)) refl (each_once (suc j) ds (λ i. let next : suc j + i ≡ j + suc i = omega arith in ap (slice_get z.done) next ∙ same (suc i)))
      where
        here : slice_get z.done j ≡ Some d
        here = let same_place : j ≡ j + 0 = omega arith in ap (slice_get z.done) same_place ∙ same 0

        at : (c : Bool) → leads (settled labels lates j d) ≡ c → list_all (λ n. nat_eq (count_by (nat_eq n) (blocks_of_ways ways)) 1) (block_names (filter leads (settled_from labels lates (suc j) ds))) ≡ true
            → list_all (λ n. nat_eq (count_by (nat_eq n) (blocks_of_ways ways)) 1) (block_names (cond c (settled labels lates j d ∷ filter leads (settled_from labels lates (suc j) ds)) (filter leads (settled_from labels lates (suc j) ds)))) ≡ true
        at true h rest = both (nat_eq (count_by (nat_eq j) (blocks_of_ways ways)) 1) (list_all (λ n. nat_eq (count_by (nat_eq n) (blocks_of_ways ways)) 1) (block_names (filter leads (settled_from labels lates (suc j) ds)))) (eq-eqb (count_by (nat_eq j) (blocks_of_ways ways)) 1 (count_times j ways ∙ exact.by j ∙ ap once (sym (leads_named j d here) ∙ h))) rest
        at false h rest = rest

    among_leads : (j : ℕ) (ds : List Draft) (k : ℕ) → ((i : ℕ) → slice_get z.done (j + i) ≡ slice_get ds i) → j ≤ k → named label z.done k ≡ true → k < j + length ds → is_among (block_names (filter leads (settled_from labels lates j ds))) k ≡ true
    among_leads j [] k same le e lt = absurd (omega (arith, le, lt))
    among_leads j (d ∷ ds) k same le e lt = at (nat_eq k j) refl (leads (settled labels lates j d)) refl (λ above. among_leads (suc j) ds k (λ i. let next : suc j + i ≡ j + suc i = omega arith in ap (slice_get z.done) next ∙ same (suc i)) above e (omega (arith, lt)))
      where
        here : slice_get z.done j ≡ Some d
        here = let same_place : j ≡ j + 0 = omega arith in ap (slice_get z.done) same_place ∙ same 0

        above : nat_eq k j ≡ false → suc j ≤ k
        above ne = omega (arith, le, apart)
          where
            apart : k ≢ j
            apart h = cc (ne, eq-eqb k j h)

        rest : List ModuleBlock
        rest = filter leads (settled_from labels lates (suc j) ds)

        at : (q : Bool) → nat_eq k j ≡ q → (c : Bool) → leads (settled labels lates j d) ≡ c → (suc j ≤ k → is_among (block_names rest) k ≡ true) → is_among (block_names (cond c (settled labels lates j d ∷ rest) rest)) k ≡ true
        at true q true h next = or_left (nat_eq k j) (is_among (block_names rest) k) q
        at true q false h next = absurd (cc (e, ap (named label z.done) (eqb-true k j q) ∙ sym (leads_named j d here) ∙ h))
        at false q true h next = or_right (nat_eq k j) (is_among (block_names rest) k) (next (above q))
        at false q false h next = next (above q)

    abbrev preds : List ℕ
    preds = block_names (filter leads (settled_from labels lates 0 z.done))

    from_zero : (i : ℕ) → slice_get z.done (0 + i) ≡ slice_get z.done i
    from_zero i = let none : 0 + i ≡ i = omega arith in ap (slice_get z.done) none

    times_in : (front : List CellState) (w : CellState) (ws : List CellState) → 0 < times w.block (front ++ w ∷ ws)
    times_in [] w ws = let e = ap (λ (c : Bool). if c then suc (times w.block ws) else times w.block ws) (eq-eqb w.block w.block refl) in omega (arith, e)
    times_in (x ∷ front) w ws = at (nat_eq w.block x.block) (times_in front w ws)
      where
        at : (c : Bool) → 0 < times w.block (front ++ w ∷ ws) → 0 < (if c then suc (times w.block (front ++ w ∷ ws)) else times w.block (front ++ w ∷ ws))
        at true lt = omega arith
        at false lt = lt

    once_named : (n : ℕ) (c : Bool) → 0 < n → n ≡ once c → c ≡ true
    once_named n true lt e = refl
    once_named n false lt e = absurd (omega (arith, lt, e))

    way_among : (front : List CellState) (w : CellState) (ws : List CellState) → ways ≡ front ++ w ∷ ws → is_among preds w.block ≡ true
    way_among front w ws e =
        let is = once_named (times w.block ways) (named label z.done w.block) (subst (λ (l : List CellState). 0 < times w.block l) (sym e) (times_in front w ws)) (exact.by w.block) in
        among_leads 0 z.done w.block from_zero (omega arith) is (omega (arith, named_within label z.done w.block is))

    names_in : (front ws : List CellState) → ways ≡ front ++ ws → list_all (is_among preds) (blocks_of_ways ws) ≡ true
    names_in front [] e = refl
    names_in front (w ∷ ws) e = both (is_among preds w.block) (list_all (is_among preds) (blocks_of_ways ws)) (way_among front w ws e) (names_in (front ++ w ∷ []) ws (e ∙ sym (append_assoc front (w ∷ []) ws)))

    -- each predecessor once, and no other block
    preds_once : names_each_once (blocks_of_ways ways) preds ≡ true
    preds_once = both (list_all (λ n. nat_eq (count_by (nat_eq n) (blocks_of_ways ways)) 1) preds) (list_all (is_among preds) (blocks_of_ways ways)) (each_once 0 z.done from_zero) (names_in [] ways refl)

    has_draft : (k : ℕ) (o : Option Draft) → slice_get z.done k ≡ o → jumps_in o label ≡ true → (d : Draft) × (slice_get z.done k ≡ Some d)
    has_draft k None is e = absurd (cc e)
    has_draft k (Some d) is e = (d, is)

    -- whether a block leads here
    way_here : (k : ℕ) (here : ModuleBlock) → slice_get (settled_from labels lates 0 z.done) b ≡ Some here → here.name ≡ b → named label z.done k ≡ true → is_way (settled_from labels lates 0 z.done) k b ≡ true
    way_here k here at name e =
        let d = has_draft k (slice_get z.done k) refl e in
        let zero_more : 0 + k ≡ k = omega arith in
        ap (λ (o : Option ModuleBlock). jumps_to o (slice_get (settled_from labels lates 0 z.done) b)) (settled_get labels lates 0 z.done k d.0 d.1 ∙ ap (λ (n : ℕ). Some (settled labels lates n d.0)) zero_more)
        ∙ ap (jumps_to (Some (settled labels lates k d.0))) at
        ∙ ap (is_among (targets_of (settled_last labels d.0.last))) name
        ∙ leads_named k d.0 d.1 ∙ e

    has_earlier : (k : ℕ) (here : ModuleBlock) → slice_get (settled_from labels lates 0 z.done) b ≡ Some here → here.name ≡ b → k < b → named label z.done k ≡ true → is_empty (earlier (settled_from labels lates 0 z.done) b) ≡ false
    has_earlier k here at name lt e = not_empty (earlier (settled_from labels lates 0 z.done) b) k (filter_keeps (λ p. is_way (settled_from labels lates 0 z.done) p b) 0 b k (omega arith) (omega (arith, lt)) (way_here k here at name e))
      where
        not_empty : (xs : List ℕ) (n : ℕ) → is_among xs n ≡ true → is_empty xs ≡ false
        not_empty [] n e = absurd (cc e)
        not_empty (x ∷ xs) n e = refl

-- ---- the rules

-- a phi of the k-th block
abbrev phi_test : Module → ℕ → ModuleBlock → Item → Bool
phi_test m k b (ThePhi p) = not (nat_eq k 0) && names_each_once (entry_names p) (predecessors m.blocks b.name)
phi_test m k b (TheInstr i) = true
phi_test m k b (TheLast l) = true

same_test : (m : Module) (k : ℕ) (b : ModuleBlock) (front : List Item) (item : Item) → phis_kept m (spot_at k b front item) ≡ phi_test m k b item
same_test m k b front (ThePhi p) = refl
same_test m k b front (TheInstr i) = refl
same_test m k b front (TheLast l) = refl

module _ (carry : WaysCarry) (keeps : SameWhereNotDiffer) (core : Core) (coder : Coder) (l : IsLowerable core coder) where
  -- what is known of a block behind the first
  record Known (k : ℕ) (b : ModuleBlock) : Type 0 where
    name : b.name ≡ k
    entered : EnteredAt (late_phis core coder) 0 (whole_work core coder) k
    phis : b.phis ≡ settled_phis (late_phis core coder) entered.part

  known : (k : ℕ) (b : ModuleBlock) → slice_get (lowered core coder).blocks k ≡ Some b → 0 < k → Known k b
  known k b is lt =
      let z = whole_work core coder in
      let lates = late_phis core coder in
      let labels : ℕ → ℕ = λ j. get_or z.targets j 0 in
      let v = lower_of core coder (program_of core) (first_work (length core.cells)) in
      let none : z.now ≡ None = end_none core.outputs v v.now refl in
      let within : k < length z.done = omega (arith, slice_get_within (lowered core coder).blocks k b is, settled_long labels lates 0 z.done) in
      let e = all_entered carry keeps core coder l k lt within in
      let listed : slice_get (map draft_phis z.done) k ≡ Some e.part = ap (λ (p : List PhiPart). slice_get p k) (sym (append-nil (map draft_phis z.done)) ∙ ap (λ (n : Option Open). map draft_phis z.done ++ now_phis n) (sym none)) ∙ e.stands in
      let d = drafted z.done k e.part listed in
      let zero_more : 0 + k ≡ k = omega arith in
      let same : b ≡ settled labels lates k d.0 = some_block b (settled labels lates k d.0) (sym is ∙ settled_get labels lates 0 z.done k d.0 d.1 ∙ ap (λ (n : ℕ). Some (settled labels lates n d.0)) zero_more) in
      record {
        name = ap (λ (x : ModuleBlock). x.name) same;
        entered = e;
        phis = ap (λ (x : ModuleBlock). x.phis) same ∙ ap (settled_phis lates) d.2;
      }

  pub phis_fine : (k : ℕ) (b : ModuleBlock) → slice_get (lowered core coder).blocks k ≡ Some b → AllByRecursion (λ (p : Phi). phi_test (lowered core coder) k b (ThePhi p) ≡ true) b.phis
  phis_fine zero b is =
      let graph = is_graph carry keeps core coder l.coder_fits (program_fits core l.fits l.held) l.fits.well_formed.levels in
      let same : b ≡ graph.starts.target = some_block b graph.starts.target (sym is ∙ graph.starts.found) in
      subst (AllByRecursion (λ (p : Phi). phi_test (lowered core coder) 0 b (ThePhi p) ≡ true)) (sym (ap (λ (x : ModuleBlock). x.phis) same ∙ graph.starts.phis)) tt
  phis_fine (suc k) b is =
      let z = whole_work core coder in
      let lates = late_phis core coder in
      let st = labels_settled carry keeps core coder l in
      let n = known (suc k) b is (omega arith) in
      let e = n.entered in
      let fine = preds_once z lates st e.label (suc k) e.target (omega arith) e.ways e.exact in
      subst (AllByRecursion (λ (p : Phi). phi_test (lowered core coder) (suc k) b (ThePhi p) ≡ true)) (sym n.phis) (each (settled_phis lates e.part) (λ p q. both (not (nat_eq (suc k) 0)) (names_each_once (entry_names p) (predecessors (lowered core coder).blocks b.name)) (ap not (ne_eqb (suc k) 0 (λ h. absurd (omega (arith, h))))) (ap (λ (ns : List ℕ). names_each_once ns (predecessors (lowered core coder).blocks b.name)) q ∙ ap (λ (x : ℕ). names_each_once (blocks_of_ways e.ways) (predecessors (lowered core coder).blocks x)) n.name ∙ fine)) e.entries)
    where
      each : (phis : List Phi) → ((p : Phi) → map (λ (e : Operand × ℕ). e.1) p.entries ≡ blocks_of_ways (known (suc k) b is (omega arith)).entered.ways → phi_test (lowered core coder) (suc k) b (ThePhi p) ≡ true) → EntriesAre (known (suc k) b is (omega arith)).entered.ways phis → AllByRecursion (λ (p : Phi). phi_test (lowered core coder) (suc k) b (ThePhi p) ≡ true) phis
      each [] f all = tt
      each (p ∷ phis) f all = (f p all.0, each phis f all.1)

  pub phis_rule : IsKept (lowered core coder) phis_kept
  phis_rule =
      let m = lowered core coder in
      each_spot (λ (s : Spot). phis_kept m s ≡ true) m (λ k b is front item rest e.
      same_test m k b front item
      ∙ all_middle (λ (x : Item). phi_test m k b x ≡ true) front item rest (subst (AllByRecursion (λ (x : Item). phi_test m k b x ≡ true)) e (all_items (λ (x : Item). phi_test m k b x ≡ true) b (record {
        phis = phis_fine k b is;
        body = all_true (λ (i : Instr). phi_test m k b (TheInstr i) ≡ true) b.body (λ i. refl);
        last = refl;
      }))))

  pub earlier_fine : (k : ℕ) (b : ModuleBlock) → slice_get (lowered core coder).blocks k ≡ Some b → (nat_eq k 0 || not (is_empty (earlier (lowered core coder).blocks k))) ≡ true
  earlier_fine zero b is = refl
  earlier_fine (suc k) b is =
      let n = known (suc k) b is (omega arith) in
      let e = n.entered in
      or_right (nat_eq (suc k) 0) (not (is_empty (earlier (lowered core coder).blocks (suc k)))) (ap not (has_earlier (whole_work core coder) (late_phis core coder) (labels_settled carry keeps core coder l) e.label (suc k) e.target (omega arith) e.ways e.exact e.from b is n.name e.earlier e.names))

  pub earlier_rule : IsKept (lowered core coder) earlier_way_kept
  earlier_rule =
      let m = lowered core coder in
      each_spot (λ (s : Spot). earlier_way_kept m s ≡ true) m (λ k b is front item rest e. start_true (spot_at k b front item) (nat_eq k 0 || not (is_empty (earlier m.blocks k))) (earlier_fine k b is))

pub keeps_ways : WaysCarry → SameWhereNotDiffer → (core : Core) (coder : Coder) → IsLowerable core coder → KeepsWayRules (lowered core coder)
keeps_ways carry keeps core coder l = record {
  targets = targets_rule carry keeps core coder l;
  phis = phis_rule carry keeps core coder l;
  earlier_way = earlier_rule carry keeps core coder l;
  records = records_rule carry keeps core coder l;
}
