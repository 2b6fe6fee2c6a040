-- The lowering of a choice, with either body first.
use Rattle.std.proofs.Common.{◌≡◌, ◌≢◌, ℕ, suc, ◌+◌, ◌<◌, ◌≤◌, inl, inr, ⊎_elim, Bool, true, false, List, [], ◌∷◌, ◌++◌, map, length, get_or, Option, Some, None, refl, sym, ap, ◌∙◌, subst, arith, append-nil, length-append, length-set, get_or-set_same, get_or-set_other}
use Rattle.std.specs.Prelude.{slice_get}
use Rattle.std.proofs.lemmas.List.{get_or_append_left, get_or_at}
use Rattle.qir_module.specs.declared.instruction.Operand.{Operand}
use Rattle.qir_module.specs.declared.instruction.Instr.{Instr}
use Rattle.qir_module.specs.declared.instruction.Last.{Last}
use Rattle.qir_module.specs.declared.instruction.Last.TheVariants.{Jump, Branch}
use Rattle.qir_module.specs.declared.block.Phi.{Phi}
use Rattle.qir_module.specs.Module.{Module}
use Rattle.core_ir.specs.declared.expression.CellKind.{CellKind}
use Rattle.core_ir.specs.declared.expression.CellKind.TheVariants.{Truth as TruthKind}
use Rattle.core_ir.specs.Core.{Core}
use Rattle.core_ir.specs.Tree.{Stmt, If}
use Rattle.core_ir.specs.WellFormed.{kind_at}
use Rattle.phi_place.specs.State.{CellState}
use Rattle.phi_place.specs.Phis.{Carries, WaysCarry, SameWhereNotDiffer}
use Rattle.expr_lower.specs.Lowered.{AreCells, IsLowered}
use Rattle.block_graph.specs.Work.{PhiPart, Ready, Draft, Level, Open, Work}
use Rattle.expr_lower.specs.Coded.{Coded}
use Rattle.block_graph.specs.Lowering.{Coder, IsCoder, first_operand, opened, closed, close, when_open, way_of, join_work, branch_last, open_first, fall_work, fall_ways, open_second, join_bodies, settled_phis, settled_last}
use Rattle.block_graph.specs.Stretch.{Place, Computes, Leads, Joins, Merges, Low}
use Rattle.block_graph.proofs.Cells.{WaysFit, ways_more, ways_last}
use Rattle.block_graph.proofs.Moving.{levels_more, stand_more, IsValid, SameLevels, same_levels, Grows, grows_refl, grows_then, settles_left, settles_right, EndGoes, end_less, end_rest, ends_less, starts_less, now_phis, draft_phis, map_push, Moves, moves_refl, moves_longer, MovesBelow, below_from, below_to, below_then, Stand, get_left, get_end, stand_less, IsFinal, StandsAt, StandsIf, LowFrom, Emits}
use Rattle.block_graph.proofs.Emitting.{kind_within, now_of, coded, computed, jump_place, closed_at, pushed, closed_phis, Joined, opened_phis, joined, join_valid, leads_at, join_goes}

-- ---- the end of a body

pub record Fallen (kinds : List CellKind) (label : ℕ) (v f : Work) (now : Option Open) : Type 0 where
  pub moves : Moves v f
  pub targets : f.targets ≡ v.targets
  pub next : f.next ≡ v.next
  pub none : f.now ≡ None
  pub valid : IsValid kinds f
  pub ways : WaysFit kinds v.next (length f.done) (fall_ways v now)
  pub behind : (bound : ℕ) (way : CellState) → bound ≤ length v.done → WaysFit kinds v.next bound (way ∷ []) → WaysFit kinds v.next (length f.done) (way ∷ fall_ways v now)
  pub goes : (m : Module) (labels : ℕ → ℕ) (lates : ℕ → List Phi) (end : Option Place) → Stand m labels lates f.done → EndGoes kinds m labels label (fall_ways v now) end → (side : Option Place) × StandsIf m lates (length v.done) v.now side × Joins kinds m side end

pub fallen : (kinds : List CellKind) (label : ℕ) (v : Work) (now : Option Open) → v.now ≡ now → IsValid kinds v → Fallen kinds label v (when_open now v (λ o. close v o (Jump label))) now
fallen kinds label v None is ok = record {
  moves = moves_refl v;
  targets = refl;
  next = refl;
  none = is;
  valid = ok;
  ways = (tt, tt);
  behind = λ bound way le ways. ways_more kinds v.next v.next bound (length v.done) (way ∷ []) (omega arith) le ways;
  goes = λ m labels lates end f g. (None, subst (λ (n : Option Open). StandsIf m lates (length v.done) n None) (sym is) tt, tt);
}
fallen kinds label v (Some o) is ok = record {
  moves = record { phis = closed_phis v o d is refl; added = d ∷ []; done = refl; targets = grows_refl v.targets 0; lates = grows_refl v.lates []; next = omega arith; ends = same_levels v.ends; starts = same_levels v.starts };
  targets = refl;
  next = refl;
  none = refl;
  valid = record { now = tt; ends = levels_more kinds v.next v.next (length v.done) (length (v.done ++ d ∷ [])) v.ends (omega arith) (omega (arith, pushed v d)) ok.ends; starts = levels_more kinds v.next v.next (length v.done) (length (v.done ++ d ∷ [])) v.starts (omega arith) (omega (arith, pushed v d)) ok.starts; stand = stand_more (length v.done) (length (v.done ++ d ∷ [])) v.starts (omega (arith, pushed v d)) ok.stand };
  ways = (((omega (arith, pushed v d), n), tt), (tt, tt));
  behind = λ bound way le ways. ways_last kinds v.next bound (length (v.done ++ d ∷ [])) (way ∷ []) (way_of v o) le (omega (arith, pushed v d)) n ways;
  goes = to;
}
  where
    d : Draft
    d = closed o (Jump label)

    n : AreCells kinds v.next o.values
    n = now_of kinds v o is ok

    to : (m : Module) (labels : ℕ → ℕ) (lates : ℕ → List Phi) (end : Option Place) → Stand m labels lates (v.done ++ d ∷ []) → EndGoes kinds m labels label (way_of v o ∷ []) end → (side : Option Place) × StandsIf m lates (length v.done) v.now side × Joins kinds m side end
    to m labels lates None f g = absurd (cc g)
    to m labels lates (Some p) f g =
        let q = jump_place (length v.done) o p in
        (Some q, subst (λ (z : Option Open). StandsIf m lates (length v.done) z (Some q)) (sym is) (closed_at m labels lates (v.done ++ d ∷ []) (length v.done) o label p f (get_end v.done d) g.0), record { goes = record { rest = refl; last = refl; leads = g.1.1 }; later = g.1.0 })

no_phis : (kinds : List CellKind) (from : ℕ) (values : List Operand) → Carries [] kinds (record { block = from; values = values }) values
no_phis kinds from values = record { by = λ s cells h. (s, refl, h) }

three_longer : (xs : List ℕ) (a b c : ℕ) → length (xs ++ a ∷ b ∷ c ∷ []) ≡ suc (suc (suc (length xs)))
three_longer xs a b c = omega (arith, length-append xs (a ∷ b ∷ c ∷ []))

-- ---- the two bodies, in the order in which they stand in the text

abbrev pub branch_at : Bool → Operand → ℕ → ℕ → Last
branch_at true v first second = Branch v first second
branch_at false v first second = Branch v second first

branch_settled : (holds : Bool) (labels : ℕ → ℕ) (v : Operand) (label : ℕ) → settled_last labels (branch_last holds v label) ≡ branch_at holds v (labels label) (labels (label + 1))
branch_settled true labels v label = refl
branch_settled false labels v label = refl

pub record Splits (core : Core) (holds : Bool) (m : Module) (test : ℕ) (p first_at second_at : Place) : Type 0 where
  pub code : List Instr
  pub operands : List Operand
  pub is : p.rest ≡ code
  pub computes : Computes core (test ∷ []) p.values code operands
  pub last : p.last ≡ branch_at holds (first_operand operands) first_at.block second_at.block
  pub leads_first : Leads core.cells m p.block p.values first_at
  pub leads_second : Leads core.cells m p.block p.values second_at
  pub later_first : p.block < first_at.block
  pub later_second : p.block < second_at.block

abbrev pub Makes : Core → Bool → ℕ → Stmt → Stmt → Stmt → Type 0
Makes core holds test first second s = (m : Module) (ends : List (Option Place)) (starts : List Place) (p first_at second_at : Place) (first_end second_end end : Option Place) → Splits core holds m test p first_at second_at → Low core m first (Some first_at) first_end ends starts → Low core m second (Some second_at) second_end ends starts → Merges core.cells m first_end second_end end → Low core m s (Some p) end ends starts

pub makes_true : (core : Core) (test : ℕ) (a b : Stmt) → Makes core true test a b (If test a b)
makes_true core test a b m ends starts p fp sp fe se end b' la lb mg = (fp, sp, fe, se, record { code = b'.code; operands = b'.operands; is = b'.is; computes = b'.computes; last = b'.last; leads_yes = b'.leads_first; leads_no = b'.leads_second; later_yes = b'.later_first; later_no = b'.later_second }, la, lb, mg)

pub makes_false : (core : Core) (test : ℕ) (a b : Stmt) → Makes core false test b a (If test a b)
makes_false core test a b m ends starts p fp sp fe se end b' la lb mg = (sp, fp, se, fe, record { code = b'.code; operands = b'.operands; is = b'.is; computes = b'.computes; last = b'.last; leads_yes = b'.leads_second; leads_no = b'.leads_first; later_yes = b'.later_second; later_no = b'.later_first }, lb, la, ⊎_elim (λ j. inl (j.1, j.0)) (λ k. ⊎_elim (λ x. inr (inr x)) (λ x. inr (inl x)) k) mg)

module _ (carry : WaysCarry) (keeps : SameWhereNotDiffer) (core : Core) (coder : Coder) (isc : IsCoder core coder) (test : ℕ) (first second s : Stmt) (holds : Bool) (w v u : Work) (o : Open) (is : w.now ≡ Some o) (kind : kind_at core test ≡ Some TruthKind) (ok : IsValid core.cells w) (ea : Emits core first (open_first coder holds test w o) v) (eb : Emits core second (open_second (length w.targets + 1) o.values (fall_work (length w.targets + 2) v)) u) (makes : Makes core holds test first second s) where
  abbrev if_first : Work
  if_first = open_first coder holds test w o

  abbrev if_fall : Work
  if_fall = fall_work (length w.targets + 2) v

  abbrev if_second : Work
  if_second = open_second (length w.targets + 1) o.values if_fall

  abbrev if_code : Coded
  if_code = coder (test ∷ []) o.values w.next

  abbrev if_draft : Draft
  if_draft = record { phis = o.phis; body = o.body ++ if_code.code; last = branch_last holds (first_operand if_code.operands) (length w.targets) }

  if_now : AreCells core.cells w.next o.values
  if_now = now_of core.cells w o is ok

  if_lowered : IsLowered core (test ∷ []) o.values w.next if_code.code if_code.operands
  if_lowered = coded core coder isc (test ∷ []) o.values w.next (kind_within core test TruthKind kind, tt) if_now

  if_more : w.next ≤ w.next + length if_code.code
  if_more = omega arith

  if_long : length if_first.targets ≡ suc (suc (suc (length w.targets)))
  if_long = three_longer w.targets (length w.done + 1) 0 0

  fall_a : Fallen core.cells (length w.targets + 2) v if_fall v.now
  fall_a = fallen core.cells (length w.targets + 2) v v.now refl ea.valid

  -- the steps, with the labels below those of this choice as they were
  step_first : MovesBelow (length w.targets) w if_first
  step_first = record {
    phis = (Ready [] ∷ [], ap (λ (l : List PhiPart). l ++ Ready [] ∷ []) (map_push w.done if_draft ∙ ap (λ (q : Option Open). map draft_phis w.done ++ now_phis q) (sym is)));
    added = if_draft ∷ [];
    done = refl;
    long = omega (arith, if_long);
    same = λ l lt. get_or_append_left w.targets ((length w.done + 1) ∷ 0 ∷ 0 ∷ []) 0 l lt;
    lates = grows_refl w.lates [];
    next = if_more;
    ends = same_levels w.ends;
    starts = same_levels w.starts;
  }

  step_second : MovesBelow (length w.targets) if_fall if_second
  step_second = record {
    phis = opened_phis if_fall (Ready []) fall_a.none;
    added = [];
    done = sym (append-nil if_fall.done);
    long = omega (arith, length-set if_fall.targets (length w.targets + 1) (length if_fall.done));
    same = λ l lt. get_or-set_other if_fall.targets (length w.targets + 1) l (length if_fall.done) 0 (λ h. absurd (omega (arith, h, lt)));
    lates = grows_refl if_fall.lates [];
    next = omega arith;
    ends = same_levels if_fall.ends;
    starts = same_levels if_fall.starts;
  }

  v_long : suc (suc (suc (length w.targets))) ≤ length v.targets
  v_long = omega (arith, if_long, ea.moves.targets.long)

  fall_long : length if_fall.targets ≡ length v.targets
  fall_long = ap length fall_a.targets

  second_long : length if_second.targets ≡ length v.targets
  second_long = length-set if_fall.targets (length w.targets + 1) (length if_fall.done) ∙ fall_long

  u_long : suc (suc (suc (length w.targets))) ≤ length u.targets
  u_long = omega (arith, v_long, second_long, eb.moves.targets.long)

  second_moves : MovesBelow (length w.targets) if_second u
  second_moves = below_from (length w.targets) if_second u (omega (arith, v_long, second_long)) eb.moves

  -- what is behind both bodies
  record Behind (all : Work) : Type 0 where
    from_u : MovesBelow (length w.targets) u all
    label : (l : ℕ) → l ≢ length w.targets + 2 → get_or all.targets l 0 ≡ get_or u.targets l 0
    long : length all.targets ≡ length u.targets
    valid : IsValid core.cells all
    ends : (m : Module) (labels : ℕ → ℕ) (lates : ℕ → List Phi) (end : Option Place) → Stand m labels lates all.done → labels (length w.targets + 2) ≡ get_or all.targets (length w.targets + 2) 0 → StandsIf m lates (length all.done) all.now end → (first_end : Option Place) × (second_end : Option Place) × StandsIf m lates (length v.done) v.now first_end × StandsIf m lates (length u.done) u.now second_end × Merges core.cells m first_end second_end end

  -- one body never ends
  behind_one : v.now ≡ None → Behind u
  behind_one none = record {
    from_u = below_from (length w.targets) u u (omega (arith, u_long)) (moves_refl u);
    label = λ l ne. refl;
    long = refl;
    valid = eb.valid;
    ends = λ m labels lates end f l at. (None, end, subst (λ (n : Option Open). StandsIf m lates (length v.done) n None) (sym none) tt, at, inr (inl (refl, refl)));
  }

  -- both do, or the first alone
  module _ (p : Open) (vp : v.now ≡ Some p) where
    abbrev if_last : Work
    if_last = fall_work (length w.targets + 2) u

    abbrev if_ways : List CellState
    if_ways = way_of v p ∷ fall_ways u u.now

    abbrev if_join : Work
    if_join = join_work core.cells (length w.targets + 2) if_ways if_last

    fall_b : Fallen core.cells (length w.targets + 2) u if_last u.now
    fall_b = fallen core.cells (length w.targets + 2) u u.now refl eb.valid

    if_joined : Joined (length w.targets + 2) if_last if_join
    if_joined = joined core.cells (length w.targets + 2) if_ways if_last fall_b.none

    step_all : MovesBelow (length w.targets) if_last if_join
    step_all = record {
      phis = if_joined.phis;
      added = [];
      done = if_joined.done ∙ sym (append-nil if_last.done);
      long = omega (arith, if_joined.long);
      same = λ l lt. if_joined.other l (λ h. absurd (omega (arith, h, lt)));
      lates = subst (λ (t : List (List Phi)). Grows if_last.lates t []) (sym if_joined.lates) (grows_refl if_last.lates []);
      next = if_joined.next;
      ends = subst (λ (k : List Level). SameLevels if_last.ends k) (sym if_joined.ends) (same_levels if_last.ends);
      starts = subst (λ (k : List Level). SameLevels if_last.starts k) (sym if_joined.starts) (same_levels if_last.starts);
    }

    last_long : length if_last.targets ≡ length u.targets
    last_long = ap length fall_b.targets

    fell_ways : fall_ways v v.now ≡ way_of v p ∷ []
    fell_ways = ap (λ (n : Option Open). fall_ways v n) vp

    ways_p : WaysFit core.cells v.next (length if_fall.done) (way_of v p ∷ [])
    ways_p = subst (WaysFit core.cells v.next (length if_fall.done)) fell_ways fall_a.ways

    ways_b : WaysFit core.cells u.next (length if_last.done) if_ways
    ways_b = fall_b.behind (length if_fall.done) (way_of v p) (moves_longer if_second u eb.moves) (ways_more core.cells v.next u.next (length if_fall.done) (length if_fall.done) (way_of v p ∷ []) (omega (arith, fall_a.next, eb.moves.next)) (omega arith) ways_p)

    ways_last_all : WaysFit core.cells if_last.next (length if_last.done) if_ways
    ways_last_all = subst (λ (x : ℕ). WaysFit core.cells x (length if_last.done) if_ways) (sym fall_b.next) ways_b

    from_u_join : MovesBelow (length w.targets) u if_join
    from_u_join = below_then (length w.targets) u if_last if_join (below_from (length w.targets) u if_last (omega (arith, u_long)) fall_b.moves) step_all

    join_from : MovesBelow (length w.targets) if_second if_join
    join_from = below_then (length w.targets) if_second u if_join second_moves from_u_join

    behind_both : Behind if_join
    behind_both = record {
      from_u = from_u_join;
      label = λ l ne. if_joined.other l ne ∙ ap (λ (t : List ℕ). get_or t l 0) fall_b.targets;
      long = if_joined.long ∙ last_long;
      valid = join_valid core.cells (length w.targets + 2) if_ways if_last ways_last_all fall_b.valid;
      ends = λ m labels lates end f l at.
          let at_x = subst (λ (d : List Draft). StandsIf m lates (length d) if_join.now end) if_joined.done at in
          let goes = join_goes carry keeps core.cells m labels lates (length w.targets + 2) if_ways if_last end fall_b.none ways_last_all (omega (arith, u_long, last_long)) l at_x in
          let stand_last : Stand m labels lates if_last.done = subst (λ (d : List Draft). Stand m labels lates d) if_joined.done f in
          let stand_fall = stand_less m labels lates if_fall.done if_join.done join_from.added join_from.done f in
          let no_side = fall_b.goes m labels lates end stand_last (end_rest core.cells m labels (length w.targets + 2) (way_of v p ∷ []) (fall_ways u u.now) end goes) in
          let goes_p = end_less core.cells m labels (length w.targets + 2) (way_of v p ∷ []) (fall_ways u u.now) end goes in
          let yes_side = fall_a.goes m labels lates end stand_fall (subst (λ (ws : List CellState). EndGoes core.cells m labels (length w.targets + 2) ws end) (sym fell_ways) goes_p) in
          (yes_side.0, no_side.0, yes_side.1, no_side.1, inl (yes_side.2, no_side.2));
    }

  if_from : (m : Module) (labels : ℕ → ℕ) (lates : ℕ → List Phi) (ends : List (Option Place)) (starts : List Place) (end first_start second_start first_end second_end : Option Place) (all : List Draft) (added : List Draft) → all ≡ if_first.done ++ added → Stand m labels lates all → labels (length w.targets) ≡ length w.done + 1 → labels (length w.targets + 1) ≡ length if_fall.done → StandsIf m lates (length if_first.done) (Some (opened o.values)) first_start → StandsIf m lates (length if_fall.done) (Some (opened o.values)) second_start → Low core m first first_start first_end ends starts → Low core m second second_start second_end ends starts → Merges core.cells m first_end second_end end → LowFrom core m lates w s end ends starts
  if_from m labels lates ends starts end None second_start first_end second_end all added ad stand ly ln ay an la lb mg = absurd ay
  if_from m labels lates ends starts end (Some py) None first_end second_end all added ad stand ly ln ay an la lb mg = absurd an
  if_from m labels lates ends starts end (Some py) (Some pn) first_end second_end all added ad stand ly ln ay an la lb mg =
      let test_operand = first_operand if_code.operands in
      let p : Place = record { block = length w.done; rest = if_code.code; last = branch_at holds (first_operand if_code.operands) py.block pn.block; values = o.values } in
      let long = pushed w if_draft in
      let shorter = moves_longer if_first v ea.moves in
      let shorter' = moves_longer v if_fall fall_a.moves in
      let drafted_at : slice_get all (length w.done) ≡ Some if_draft = ap (λ (q : List Draft). slice_get q (length w.done)) ad ∙ get_left if_first.done added (length w.done) if_draft (get_end w.done if_draft) in
      let yes_is : labels (length w.targets) ≡ py.block = ly ∙ sym (ay.block ∙ long ∙ sym (add_suc (length w.done))) in
      let no_is : labels (length w.targets + 1) ≡ pn.block = ln ∙ sym an.block in
      let here : StandsAt m lates (length w.done) o p = record { block = refl; values = refl; found = stand.by (length w.done) if_draft drafted_at ∙ ap (λ (y : Last). Some (record { name = length w.done; phis = settled_phis lates o.phis; body = o.body ++ if_code.code; last = y })) (branch_settled holds labels (first_operand if_code.operands) (length w.targets)) ∙ ap (λ (y : ℕ). Some (record { name = length w.done; phis = settled_phis lates o.phis; body = o.body ++ if_code.code; last = branch_at holds (first_operand if_code.operands) y (labels (length w.targets + 1)) })) yes_is ∙ ap (λ (y : ℕ). Some (record { name = length w.done; phis = settled_phis lates o.phis; body = o.body ++ if_code.code; last = branch_at holds (first_operand if_code.operands) py.block y })) no_is } in
      let splits : Splits core holds m test p py pn = record {
        code = if_code.code;
        operands = if_code.operands;
        is = refl;
        computes = computed core (test ∷ []) o.values w.next if_code.code if_code.operands if_lowered;
        last = refl;
        leads_first = leads_at core.cells m lates (length if_first.done) (length w.done) o.values (opened o.values) py refl if_now.long ay (no_phis core.cells (length w.done) o.values);
        leads_second = leads_at core.cells m lates (length if_fall.done) (length w.done) o.values (opened o.values) pn refl if_now.long an (no_phis core.cells (length w.done) o.values);
        later_first = omega (arith, ay.block, long);
        later_second = omega (arith, an.block, long, shorter, shorter');
      } in
      record { start = Some p; at = subst (λ (z : Option Open). StandsIf m lates (length w.done) z (Some p)) (sym is) here; low = makes m ends starts p py pn first_end second_end end splits la lb mg }
    where
      add_suc : (n : ℕ) → n + 1 ≡ suc n
      add_suc n = omega arith

  module _ (all : Work) (bh : Behind all) where
    from_second : MovesBelow (length w.targets) if_second all
    from_second = below_then (length w.targets) if_second u all second_moves bh.from_u

    from_v : MovesBelow (length w.targets) v all
    from_v = below_then (length w.targets) v if_fall all (below_from (length w.targets) v if_fall (omega (arith, v_long)) fall_a.moves) (below_then (length w.targets) if_fall if_second all step_second from_second)

    from_first : MovesBelow (length w.targets) if_first all
    from_first = below_then (length w.targets) if_first v all (below_from (length w.targets) if_first v (omega (arith, if_long)) ea.moves) from_v

    if_moves : Moves w all
    if_moves = below_to w all (below_then (length w.targets) w if_first all step_first from_first)

    v_label : (l : ℕ) → l < length v.targets → l ≢ length w.targets + 2 → l ≢ length w.targets + 1 → get_or all.targets l 0 ≡ get_or v.targets l 0
    v_label l lt ne ne' = bh.label l ne ∙ eb.moves.targets.same l (omega (arith, lt, second_long)) ∙ get_or-set_other if_fall.targets (length w.targets + 1) l (length if_fall.done) 0 ne' ∙ ap (λ (t : List ℕ). get_or t l 0) fall_a.targets

    final_second : (m : Module) (labels : ℕ → ℕ) (lates : ℕ → List Phi) → IsFinal m labels lates w all → IsFinal m labels lates if_second u
    final_second m labels lates f = record {
      blocks = stand_less m labels lates u.done all.done bh.from_u.added bh.from_u.done f.blocks;
      targets = record { by = λ l le lt. f.targets.by l (omega (arith, le, second_long, v_long)) (omega (arith, lt, bh.long)) ∙ bh.label l (λ h'. absurd (omega (arith, h', le, second_long, v_long))) };
      phis = settles_left if_second.lates u.lates all.lates lates [] bh.from_u.lates (settles_right w.lates if_second.lates all.lates lates [] (grows_then w.lates v.lates if_second.lates [] ea.moves.lates fall_a.moves.lates) f.phis);
    }

    final_first : (m : Module) (labels : ℕ → ℕ) (lates : ℕ → List Phi) → IsFinal m labels lates w all → IsFinal m labels lates if_first v
    final_first m labels lates f = record {
      blocks = stand_less m labels lates v.done all.done from_v.added from_v.done f.blocks;
      targets = record { by = λ l le lt. f.targets.by l (omega (arith, le, if_long)) (omega (arith, lt, second_long, eb.moves.targets.long, bh.long)) ∙ v_label l lt (λ h'. absurd (omega (arith, h', le, if_long))) (λ h'. absurd (omega (arith, h', le, if_long))) };
      phis = settles_left w.lates v.lates all.lates lates [] from_v.lates f.phis;
    }

    sides_emits : Emits core s w all
    sides_emits = record {
      moves = if_moves;
      valid = bh.valid;
      low = λ m labels lates ends starts end f at g h.
          let sides = bh.ends m labels lates end f.blocks (f.targets.by (length w.targets + 2) (omega arith) (omega (arith, u_long, bh.long))) at in
          let final_b = final_second m labels lates f in
          let final_a = final_first m labels lates f in
          let g_u = ends_less core.cells m labels u.ends all.ends ends bh.from_u.ends g in
          let h_u = starts_less core.cells m labels u.starts all.starts starts bh.from_u.starts h in
          let g_v = ends_less core.cells m labels v.ends all.ends ends from_v.ends g in
          let h_v = starts_less core.cells m labels v.starts all.starts starts from_v.starts h in
          let rb = eb.low m labels lates ends starts sides.1 final_b sides.3 g_u h_u in
          let ra = ea.low m labels lates ends starts sides.0 final_a sides.2 g_v h_v in
          let ly : labels (length w.targets) ≡ length w.done + 1 = f.targets.by (length w.targets) (omega arith) (omega (arith, u_long, bh.long)) ∙ v_label (length w.targets) (omega (arith, v_long)) (λ h'. absurd (omega (arith, h'))) (λ h'. absurd (omega (arith, h'))) ∙ ea.moves.targets.same (length w.targets) (omega (arith, if_long)) ∙ get_or_at w.targets (length w.done + 1) (0 ∷ 0 ∷ []) 0 (length w.targets) refl in
          let ln : labels (length w.targets + 1) ≡ length if_fall.done = f.targets.by (length w.targets + 1) (omega arith) (omega (arith, u_long, bh.long)) ∙ bh.label (length w.targets + 1) (λ h'. absurd (omega (arith, h'))) ∙ eb.moves.targets.same (length w.targets + 1) (omega (arith, second_long, v_long)) ∙ get_or-set_same if_fall.targets (length w.targets + 1) (length if_fall.done) 0 (omega (arith, fall_long, v_long)) in
          if_from m labels lates ends starts end ra.start rb.start sides.0 sides.1 all.done from_first.added from_first.done f.blocks ly ln ra.at rb.at ra.low rb.low sides.4;
    }

  pub if_emits : (n : Option Open) → v.now ≡ n → Emits core s w (join_bodies core.cells (length w.targets + 2) (fall_ways v n) u)
  if_emits None e = sides_emits u (behind_one e)
  if_emits (Some p) e = sides_emits (if_join p e) (behind_both p e)
