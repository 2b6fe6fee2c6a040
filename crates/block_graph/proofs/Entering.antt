-- Each block that a statement opens is entered from an earlier one, and its phis have an entry for each way to it.
use Rattle.std.proofs.Common.{◌≡◌, ◌≢◌, ℕ, suc, ◌+◌, ◌<◌, ◌≤◌, ◌⊎◌, inl, inr, Bool, true, false, ◌||◌, List, [], ◌∷◌, ◌++◌, map, length, get_or, Option, Some, None, refl, sym, ap, ◌∙◌, subst, arith, append_assoc, append-nil, length-append, length-set, get_or-set_same, get_or-set_other, nat_eq, eq-eqb}
use Rattle.std.specs.Prelude.{slice_get, if◌then◌else◌}
use Rattle.std.specs.List.{AllByRecursion}
use Rattle.std.proofs.lemmas.Bool.{cases_lt}
use Rattle.std.proofs.lemmas.List.{get_or_at, length-map}
use Rattle.qir_module.specs.declared.instruction.Operand.{Operand}
use Rattle.qir_module.specs.declared.instruction.Last.TheVariants.{Jump}
use Rattle.qir_module.specs.declared.block.Phi.{Phi}
use Rattle.qir_module.specs.Carried.{targets_of}
use Rattle.qir_module.specs.Numbered.{is_among}
use Rattle.core_ir.specs.declared.expression.CellKind.{CellKind}
use Rattle.core_ir.specs.Core.{Core}
use Rattle.core_ir.specs.Tree.{Stmt, Skip, Seq, Assign, Gate, Reset, Measure, If, Block, Loop, Leave, Again}
use Rattle.core_ir.specs.Ways.{Falls, reaches}
use Rattle.core_ir.specs.WellFormed.{HasLevels}
use Rattle.cell_operands.specs.Operands.{is_number}
use Rattle.phi_place.specs.State.{CellState}
use Rattle.phi_place.specs.Phis.{entries_of, phis_for, ways_differ, WaysCarry, SameWhereNotDiffer}
use Rattle.block_graph.specs.Fitting.{IsFit}
use Rattle.block_graph.specs.Work.{PhiPart, Ready, Late, Draft, Level, Open, Work}
use Rattle.block_graph.specs.Lowering.{Coder, IsCoder, closed, close, way_of, label_at, when_open, assign_work, gate_work, reset_work, measure_work, leave_work, again_work, leave_zero, join_work, open_end, close_end, start_needs, open_loop, close_start, branch_last, first_operand, open_first, fall_work, fall_ways, open_second, join_bodies, two_bodies, lower_of, settled_phis}
use Rattle.block_graph.proofs.Flow.{or_left, or_right, fall_none, leave_none}
use Rattle.block_graph.proofs.Moving.{IsValid, SameLevels, same_length, Moves, Emits, Settles, settles_left, settles_right, phi_list, draft_phis, now_phis, get_left, get_end}
use Rattle.block_graph.proofs.Emitting.{leave_emits, joined, opened_phis, closed_phis}
use Rattle.block_graph.proofs.Whole.{open_end_valid, open_loop_valid, open_first_valid, levels_same, body_emits, emits}
use Rattle.block_graph.proofs.Walking.{lates_grow, leave_lates, close_end_lates, loop_lates, one_longer}
use Rattle.block_graph.proofs.Bounding.{start_phis, both_settle, second_valid, second_levels}
use Rattle.block_graph.proofs.Jumps.{IsIn, once, named, named_left, named_end, named_within, Exact, exact_more, EachExact, EachBelow, labels_of, one_target_is}
use Rattle.block_graph.proofs.Tables.{blocks_opened, Table, Frame, Jumped, same_labels, jumped_when, leave_jumped, below_not, way_named, open_end_table, open_loop_table, long_one, long_two, long_three, pushed}
use Rattle.block_graph.proofs.Jumping.{Also, first_table, fall_targets, fall_named, leave_moves, f_long, g_long, apart_f, jumped_u, jumped_table, u_long, last_long, exact_last, jumps}

-- ---- the names in phis

abbrev pub blocks_of_ways : List CellState → List ℕ
blocks_of_ways ways = map (λ (w : CellState). w.block) ways

-- each phi has an entry for each way, in their order
abbrev pub EntriesAre : List CellState → List Phi → Type 0
EntriesAre ways phis = AllByRecursion (λ (p : Phi). map (λ (e : Operand × ℕ). e.1) p.entries ≡ blocks_of_ways ways) phis

entries_named : (ways : List CellState) (c : ℕ) → map (λ (e : Operand × ℕ). e.1) (entries_of ways c) ≡ blocks_of_ways ways
entries_named [] c = refl
entries_named (w ∷ ways) c = ap (λ (l : List ℕ). w.block ∷ l) (entries_named ways c)

phis_named : (needs : ℕ → Bool) (ways : List CellState) (kinds : List CellKind) (c next : ℕ) → EntriesAre ways (phis_for needs ways kinds c next)
phis_named needs ways [] c next = tt
phis_named needs ways (kind ∷ kinds) c next = two (needs c) (phis_named needs ways kinds (suc c) (suc next)) (phis_named needs ways kinds (suc c) next)
  where
    two : (b : Bool) → EntriesAre ways (phis_for needs ways kinds (suc c) (suc next)) → EntriesAre ways (phis_for needs ways kinds (suc c) next)
        → EntriesAre ways (if b then record { register = next; number = is_number kind; entries = entries_of ways c } ∷ phis_for needs ways kinds (suc c) (suc next) else phis_for needs ways kinds (suc c) next)
    two true m s = (entries_named ways c, m)
    two false m s = s

phis_end : (done : List Draft) (part : PhiPart) → slice_get (map draft_phis done ++ part ∷ []) (length done) ≡ Some part
phis_end done part = ap (slice_get (map draft_phis done ++ part ∷ [])) (sym (length-map done draft_phis)) ∙ get_end (map draft_phis done) part

-- ---- what keeps the ways to a label

pub record Keeps (u v : Work) (label : ℕ) : Type 0 where
  pub long : length u.targets ≤ length v.targets
  pub target : get_or v.targets label 0 ≡ get_or u.targets label 0
  pub names : (k : ℕ) → named label v.done k ≡ named label u.done k
  pub phis : (more : List PhiPart) × (phi_list v ≡ phi_list u ++ more)

keeps_then : (u v x : Work) (l : ℕ) → Keeps u v l → Keeps v x l → Keeps u x l
keeps_then u v x l a b = record {
  long = omega (arith, a.long, b.long);
  target = b.target ∙ a.target;
  names = λ k. b.names k ∙ a.names k;
  phis = (a.phis.0 ++ b.phis.0, b.phis.1 ∙ ap (λ (y : List PhiPart). y ++ b.phis.0) a.phis.1 ∙ append_assoc (phi_list u) a.phis.0 b.phis.0);
}

keeps_same : (u v : Work) (l : ℕ) → v.targets ≡ u.targets → v.done ≡ u.done → v.now ≡ u.now → Keeps u v l
keeps_same u v l t d n = record {
  long = omega (arith, ap length t);
  target = ap (λ (y : List ℕ). get_or y l 0) t;
  names = λ k. ap (λ (y : List Draft). named l y k) d;
  phis = ([], ap (λ (y : List Draft). map draft_phis y ++ now_phis v.now) d ∙ ap (λ (y : Option Open). map draft_phis u.done ++ now_phis y) n ∙ sym (append-nil (phi_list u)));
}

moves_keep : (u v : Work) (l : ℕ) → Moves u v → Frame u v → l < length u.targets → (IsIn l (labels_of u.ends) → ⊥) → (IsIn l (labels_of u.starts) → ⊥) → Keeps u v l
moves_keep u v l a f lt ne ns = record { long = a.targets.long; target = a.targets.same l lt; names = f.by l lt ne ns; phis = a.phis }

fall_keeps : (j : ℕ) (v : Work) (now : Option Open) (l : ℕ) → v.now ≡ now → l ≢ j → Keeps v (when_open now v (λ o. close v o (Jump j))) l
fall_keeps j v None l is ne = keeps_same v v l refl refl refl
fall_keeps j v (Some o) l is ne = record { long = omega arith; target = refl; names = λ k. fall_named j l v (Some o) k ne; phis = closed_phis v o (closed o (Jump j)) is refl }

second_keeps : (label : ℕ) (values : List Operand) (f : Work) (l : ℕ) → f.now ≡ None → l ≢ label → Keeps f (open_second label values f) l
second_keeps label values f l none ne = record {
  long = omega (arith, length-set f.targets label (length f.done));
  target = get_or-set_other f.targets label l (length f.done) 0 ne;
  names = λ k. refl;
  phis = opened_phis f (Ready []) none;
}

join_keeps : (kinds : List CellKind) (label : ℕ) (ways : List CellState) (x : Work) (l : ℕ) → x.now ≡ None → l ≢ label → Keeps x (join_work kinds label ways x) l
join_keeps kinds label ways x l none ne =
    let j = joined kinds label ways x none in
    record { long = omega (arith, j.long); target = j.other l ne; names = λ k. ap (λ (y : List Draft). named l y k) j.done; phis = j.phis }

close_start_keeps : (kinds : List CellKind) (needs : ℕ → Bool) (late next : ℕ) (ls : List Level) (v : Work) (l : ℕ) → Keeps v (close_start kinds needs late next ls v) l
close_start_keeps kinds needs late next [] v l = keeps_same v v l refl refl refl
close_start_keeps kinds needs late next (h ∷ hs) v l = keeps_same v (close_start kinds needs late next (h ∷ hs) v) l refl refl refl

names_first : (holds : Bool) (operand : Operand) (label : ℕ) → is_among (targets_of (branch_last holds operand label)) label ≡ true
names_first true operand label = or_left (nat_eq label label) (nat_eq label (label + 1) || false) (eq-eqb label label refl)
names_first false operand label = or_right (nat_eq label (label + 1)) (nat_eq label label || false) (or_left (nat_eq label label) false (eq-eqb label label refl))

names_second : (holds : Bool) (operand : Operand) (label : ℕ) → is_among (targets_of (branch_last holds operand label)) (label + 1) ≡ true
names_second true operand label = or_right (nat_eq (label + 1) label) (nat_eq (label + 1) (label + 1) || false) (or_left (nat_eq (label + 1) (label + 1)) false (eq-eqb (label + 1) (label + 1) refl))
names_second false operand label = or_left (nat_eq (label + 1) (label + 1)) (nat_eq (label + 1) label || false) (eq-eqb (label + 1) (label + 1) refl)

pub second_zero : (xs : List ℕ) (a : ℕ) → get_or (xs ++ a ∷ 0 ∷ []) (length xs + 1) 0 ≡ 0
second_zero [] a = refl
second_zero (x ∷ xs) a = let z : suc (length xs) + 1 ≡ suc (length xs + 1) = omega arith in ap (λ (k : ℕ). get_or (x ∷ (xs ++ a ∷ 0 ∷ [])) k 0) z ∙ second_zero xs a

pub third_zero : (xs : List ℕ) (a : ℕ) → get_or (xs ++ a ∷ 0 ∷ 0 ∷ []) (length xs + 2) 0 ≡ 0
third_zero [] a = refl
third_zero (x ∷ xs) a = let z : suc (length xs) + 2 ≡ suc (length xs + 2) = omega arith in ap (λ (k : ℕ). get_or (x ∷ (xs ++ a ∷ 0 ∷ 0 ∷ [])) k 0) z ∙ third_zero xs a

opened_least : (n : Option Open) (k : ℕ) → k ≤ blocks_opened n k
opened_least None k = omega arith
opened_least (Some o) k = omega arith

-- ---- how a block is entered, where these are the late phis

module _ (lates : ℕ → List Phi) where
  pub record EnteredAt (low : ℕ) (v : Work) (b : ℕ) : Type 0 where
    pub label : ℕ
    pub fresh : low ≤ label
    pub within : label < length v.targets
    pub target : get_or v.targets label 0 ≡ b
    pub ways : List CellState
    pub exact : Exact label ways v.done
    pub from : ℕ
    pub earlier : from < b
    pub names : named label v.done from ≡ true
    pub part : PhiPart
    pub stands : slice_get (phi_list v) b ≡ Some part
    pub entries : EntriesAre ways (settled_phis lates part)

  pub entered_by : (low more : ℕ) (u v : Work) (b : ℕ) (e : EnteredAt more u b) → low ≤ e.label → Keeps u v e.label → EnteredAt low v b
  entered_by low more u v b e le k = record {
    label = e.label;
    fresh = le;
    within = omega (arith, e.within, k.long);
    target = k.target ∙ e.target;
    ways = e.ways;
    exact = record { by = λ p. e.exact.by p ∙ ap once (sym (k.names p)) };
    from = e.from;
    earlier = e.earlier;
    names = k.names e.from ∙ e.names;
    part = e.part;
    stands = ap (λ (y : List PhiPart). slice_get y b) k.phis.1 ∙ get_left (phi_list u) k.phis.0 b e.part e.stands;
    entries = e.entries;
  }

  entered_keep : (low : ℕ) (u v : Work) (b : ℕ) → ((l : ℕ) → low ≤ l → l < length u.targets → get_or u.targets l 0 ≡ b → Keeps u v l) → EnteredAt low u b → EnteredAt low v b
  entered_keep low u v b keep e = entered_by low low u v b e e.fresh (keep e.label e.fresh e.within e.target)

  entered_low : (low more : ℕ) (v : Work) (b : ℕ) → low ≤ more → EnteredAt more v b → EnteredAt low v b
  entered_low low more v b le e = record { label = e.label; fresh = omega (arith, e.fresh, le); within = e.within; target = e.target; ways = e.ways; exact = e.exact; from = e.from; earlier = e.earlier; names = e.names; part = e.part; stands = e.stands; entries = e.entries }

  abbrev pub opened_in : Work → ℕ
  opened_in w = blocks_opened w.now (length w.done)

  -- all blocks that are opened from a moment on
  abbrev pub Entered : ℕ → ℕ → Work → Type 0
  Entered low from v = (b : ℕ) → from ≤ b → b < opened_in v → EnteredAt low v b

  -- the block of a join
  join_entered : (kinds : List CellKind) (low label : ℕ) (ways : List CellState) (x : Work) (from : ℕ) → x.now ≡ None → low ≤ label → label < length x.targets → Exact label ways x.done
      → ((b : ℕ) → from ≤ b → b < length x.done → EnteredAt low (join_work kinds label ways x) b) → Entered low from (join_work kinds label ways x)
  join_entered kinds low label [] x from none le lt exact old b fb lb = old b fb (subst (λ (n : Option Open). b < blocks_opened n (length x.done)) none lb)
  join_entered kinds low label (way ∷ ways) x from none le lt exact old b fb lb = at (cases_lt b (length x.done))
    where
      needs : ℕ → Bool
      needs = ways_differ (way ∷ ways)

      v : Work
      v = join_work kinds label (way ∷ ways) x

      is_named : named label x.done way.block ≡ true
      is_named = way_named label way ways x.done exact

      at : (b < length x.done) ⊎ (length x.done ≤ b) → EnteredAt low v b
      at (inl h) = old b fb h
      at (inr h) =
          let same : length x.done ≡ b = omega (arith, h, lb) in
          subst (EnteredAt low v) same (record {
            label = label;
            fresh = le;
            within = omega (arith, lt, length-set x.targets label (length x.done));
            target = get_or-set_same x.targets label (length x.done) 0 lt;
            ways = way ∷ ways;
            exact = exact;
            from = way.block;
            earlier = named_within label x.done way.block is_named;
            names = is_named;
            part = Ready (phis_for needs (way ∷ ways) kinds 0 x.next);
            stands = phis_end x.done (Ready (phis_for needs (way ∷ ways) kinds 0 x.next));
            entries = phis_named needs (way ∷ ways) kinds 0 x.next;
          })

  -- nothing is opened
  nothing : (low from : ℕ) (v : Work) → opened_in v ≤ from → Entered low from v
  nothing low from v le b f l = absurd (omega (arith, f, l, le))

  opened_some : (w : Work) (o : Open) → w.now ≡ Some o → opened_in w ≡ suc (length w.done)
  opened_some w o is = ap (λ (n : Option Open). blocks_opened n (length w.done)) is

  when_entered : (low : ℕ) (n : Option Open) (w : Work) (f : Open → Work) → w.now ≡ n → Settles w.lates (when_open n w f).lates lates [] → ((o : Open) → w.now ≡ Some o → Settles w.lates (f o).lates lates [] → Entered low (opened_in w) (f o)) → Entered low (opened_in w) (when_open n w f)
  when_entered low None w f e st next = nothing low (opened_in w) w (omega arith)
  when_entered low (Some o) w f e st next = next o e st

  either_entered : (low from : ℕ) (w x z : Work) (r : Bool) → (Settles w.lates x.lates lates [] → Entered low from x) → (Settles w.lates z.lates lates [] → Entered low from z) → Settles w.lates (if r then x else z).lates lates [] → Entered low from (if r then x else z)
  either_entered low from w x z true f g st = f st
  either_entered low from w x z false f g st = g st

  -- no label from a number on is a level's
  statement_keep : (low : ℕ) (u v : Work) → Moves u v → Frame u v → EachBelow low (labels_of u.ends) → EachBelow low (labels_of u.starts) → (l : ℕ) → low ≤ l → l < length u.targets → Keeps u v l
  statement_keep low u v a f be bs l le lt = moves_keep u v l a f lt (below_not low (labels_of u.ends) l be le) (below_not low (labels_of u.starts) l bs le)

  below_same : (low : ℕ) (ls ks : List Level) → SameLevels ls ks → EachBelow low (labels_of ls) → EachBelow low (labels_of ks)
  below_same low ls ks s b = subst (EachBelow low) (sym (same_labels ls ks s)) b

  leave_opened : (u : Work) (n : Option Open) → u.now ≡ n → length (when_open n u (leave_work 0 u)).done ≡ blocks_opened n (length u.done)
  leave_opened u None is = refl
  leave_opened u (Some o) is = pushed u.done (closed o (Jump (label_at u.ends 0)))

  fall_opened : (j : ℕ) (u : Work) (n : Option Open) → u.now ≡ n → length (when_open n u (λ o. close u o (Jump j))).done ≡ blocks_opened n (length u.done)
  fall_opened j u None is = refl
  fall_opened j u (Some o) is = pushed u.done (closed o (Jump j))

  -- one behind the other
  seq_entered : (low more from : ℕ) (u v : Work) → low ≤ more → ((l : ℕ) → low ≤ l → l < length u.targets → Keeps u v l) → Entered low from u → Entered more (opened_in u) v → Entered low from v
  seq_entered low more from u v le keep eu ev b fb lb = at (cases_lt b (opened_in u))
    where
      at : (b < opened_in u) ⊎ (opened_in u ≤ b) → EnteredAt low v b
      at (inl h) = entered_keep low u v b (λ l q lt e. keep l q lt) (eu b fb h)
      at (inr h) = entered_low low more v b le (ev b h lb)

  -- a body of a block or loop, with what falls off its end
  record Body (P : ℕ → Type 0) (low : ℕ) (w1 u v : Work) : Type 0 where
    table : Table P v
    opened : length v.done ≡ opened_in u
    none : v.now ≡ None
    keep : (l : ℕ) → low ≤ l → l < length u.targets → Keeps u v l

  module _ (carry : WaysCarry) (keeps : SameWhereNotDiffer) (core : Core) (coder : Coder) (isc : IsCoder core coder) where
    body_of : (P : ℕ → Type 0) (a : Stmt) (w1 u : Work) → 0 < length w1.ends → Table P w1 → Emits core a w1 u → Jumped P w1 u → Body P (length w1.targets) w1 u (leave_zero u)
    body_of P a w1 u lt t em j =
        let has : 0 < length u.ends = omega (arith, lt, same_length w1.ends u.ends em.moves.ends) in
        let lj = jumped_when P u.now u (leave_work 0 u) refl j.table (λ o is. leave_jumped P 0 u o has j.table) in
        let le = leave_emits core 0 u u.now refl has em.valid in
        record {
          table = lj.table;
          opened = leave_opened u u.now refl;
          none = leave_none u u.now refl;
          keep = statement_keep (length w1.targets) u (leave_zero u) le.moves lj.frame (below_same (length w1.targets) w1.ends u.ends em.moves.ends t.pending.ends_below) (below_same (length w1.targets) w1.starts u.starts em.moves.starts t.pending.starts_below);
        }

    block_entered : (P : ℕ → Type 0) (w u v : Work) (us : List Level) → Body P (length (open_end w).targets) (open_end w) u v → SameLevels (open_end w).ends v.ends → length u.targets ≤ length v.targets → length (open_end w).targets ≤ length u.targets → v.ends ≡ us → Entered (length (open_end w).targets) (opened_in w) u → Entered (length w.targets) (opened_in w) (close_end core.cells us v)
    block_entered P w u v [] bd same long from_w e eu = absurd (subst (SameLevels (open_end w).ends) e same)
    block_entered P w u v (l ∷ ls) bd same long from_w e eu =
        let x = record v { ends = ls } in
        let one = long_one w.targets in
        let label : l.label ≡ length w.targets = (subst (SameLevels (open_end w).ends) e same).0 in
        let exact : Exact l.label l.ways v.done = (subst (λ (k : List Level). EachExact k v.done) e bd.table.pending.ends_exact).0 in
        join_entered core.cells (length w.targets) l.label l.ways x (opened_in w) bd.none (omega (arith, label)) (omega (arith, label, one, long, from_w)) exact
        (λ b fb lb. entered_low (length w.targets) (length (open_end w).targets) (join_work core.cells l.label l.ways x) b (omega (arith, one))
        (entered_keep (length (open_end w).targets) u (join_work core.cells l.label l.ways x) b
        (λ k le lt at. keeps_then u v (join_work core.cells l.label l.ways x) k (bd.keep k le lt) (keeps_then v x (join_work core.cells l.label l.ways x) k (keeps_same v x k refl refl refl) (join_keeps core.cells l.label l.ways x k bd.none (λ h. absurd (omega (arith, h, label, one, le))))))
        (eu b fb (omega (arith, lb, bd.opened)))))

    loop_entered : (P : ℕ → Type 0) (a : Stmt) (w u v : Work) (o : Open) (us hs : List Level) → w.now ≡ Some o → Body P (length (open_loop core.cells (start_needs core.exprs a o.values) w o).targets) (open_loop core.cells (start_needs core.exprs a o.values) w o) u v → Moves (open_loop core.cells (start_needs core.exprs a o.values) w o) v → length u.targets ≤ length v.targets → v.ends ≡ us → v.starts ≡ hs
        → Settles w.lates (close_end core.cells us (close_start core.cells (start_needs core.exprs a o.values) (length w.lates) w.next hs v)).lates lates []
        → Entered (length (open_loop core.cells (start_needs core.exprs a o.values) w o).targets) (opened_in (open_loop core.cells (start_needs core.exprs a o.values) w o)) u → Entered (length w.targets) (opened_in w) (close_end core.cells us (close_start core.cells (start_needs core.exprs a o.values) (length w.lates) w.next hs v))
    loop_entered P a w u v o [] hs is bd mv long e eh st eu = absurd (subst (SameLevels (open_loop core.cells (start_needs core.exprs a o.values) w o).ends) e mv.ends)
    loop_entered P a w u v o (l ∷ ls) [] is bd mv long e eh st eu = absurd (subst (SameLevels (open_loop core.cells (start_needs core.exprs a o.values) w o).starts) eh mv.starts)
    loop_entered P a w u v o (l ∷ ls) (hd ∷ ks) is bd mv long e eh st eu =
        join_entered core.cells n l.label l.ways x (opened_in w) bd.none (omega (arith, label)) (omega (arith, label, two, mv.targets.long)) exact old
      where
        needs : ℕ → Bool
        needs = start_needs core.exprs a o.values

        w1 : Work
        w1 = open_loop core.cells needs w o

        n : ℕ
        n = length w.targets

        entry : Draft
        entry = closed o (Jump n)

        y : Work
        y = close_start core.cells needs (length w.lates) w.next (hd ∷ ks) v

        x : Work
        x = record y { ends = ls }

        all : Work
        all = join_work core.cells l.label l.ways x

        two : length w1.targets ≡ suc (suc n)
        two = long_two w.targets (length w.done + 1) 0

        label : l.label ≡ n + 1
        label = (subst (SameLevels w1.ends) e mv.ends).0

        start_label : hd.label ≡ n
        start_label = (subst (SameLevels w1.starts) eh mv.starts).0

        exact : Exact l.label l.ways v.done
        exact = (subst (λ (k : List Level). EachExact k v.done) e bd.table.pending.ends_exact).0

        start_exact : Exact n hd.ways v.done
        start_exact = subst (λ (k : ℕ). Exact k hd.ways v.done) start_label (subst (λ (k : List Level). EachExact k v.done) eh bd.table.pending.starts_exact).0

        to_all : (k : ℕ) → k ≢ l.label → Keeps v all k
        to_all k ne = keeps_then v y all k (close_start_keeps core.cells needs (length w.lates) w.next (hd ∷ ks) v k) (keeps_then y x all k (keeps_same y x k refl refl refl) (join_keeps core.cells l.label l.ways x k bd.none ne))

        longer : length (w.done ++ entry ∷ []) ≡ suc (length w.done)
        longer = pushed w.done entry

        within : length w.lates < length v.lates
        within = omega (arith, one_longer w.lates (phis_for needs (way_of w o ∷ []) core.cells 0 w.next), mv.lates.long)

        late : lates (length w.lates) ≡ phis_for needs hd.ways core.cells 0 w.next
        late = start_phis carry keeps core coder isc lates core.cells needs w v (l ∷ ls) hd ks within st

        head : EnteredAt n v (suc (length w.done))
        head = record {
          label = n;
          fresh = omega arith;
          within = omega (arith, two, mv.targets.long);
          target = mv.targets.same n (omega (arith, two)) ∙ get_or_at w.targets (length w.done + 1) (0 ∷ []) 0 n refl ∙ add_one (length w.done);
          ways = hd.ways;
          exact = start_exact;
          from = length w.done;
          earlier = omega arith;
          names = ap (λ (d : List Draft). named n d (length w.done)) mv.done ∙ named_left n (w.done ++ entry ∷ []) mv.added (length w.done) (omega (arith, longer)) ∙ named_end n w.done entry ∙ one_target_is n;
          part = Late (length w.lates);
          stands = ap (λ (p : List PhiPart). slice_get p (suc (length w.done))) mv.phis.1 ∙ get_left (phi_list w1) mv.phis.0 (suc (length w.done)) (Late (length w.lates)) (ap (slice_get (phi_list w1)) (sym longer) ∙ phis_end (w.done ++ entry ∷ []) (Late (length w.lates)));
          entries = subst (EntriesAre hd.ways) (sym late) (phis_named needs hd.ways core.cells 0 w.next);
        }
          where
            add_one : (k : ℕ) → k + 1 ≡ suc k
            add_one k = omega arith

        old : (b : ℕ) → opened_in w ≤ b → b < length x.done → EnteredAt n all b
        old b fb lb = at (cases_lt (suc (length w.done)) b)
          where
            some : opened_in w ≡ suc (length w.done)
            some = opened_some w o is

            at : (suc (length w.done) < b) ⊎ (b ≤ suc (length w.done)) → EnteredAt n all b
            at (inl h) =
                entered_low n (length w1.targets) all b (omega (arith, two))
                (entered_keep (length w1.targets) u all b (λ k le lt at. keeps_then u v all k (bd.keep k le lt) (to_all k (λ q. absurd (omega (arith, q, label, two, le))))) (eu b (omega (arith, h, longer)) (omega (arith, lb, bd.opened))))
            at (inr h) =
                let same : suc (length w.done) ≡ b = omega (arith, h, fb, some) in
                subst (EnteredAt n all) same (entered_keep n v all (suc (length w.done)) (λ k le lt at. to_all k (λ q. absurd (never k q at))) head)
              where
                -- the end's label has no block yet
                never : (k : ℕ) → k ≡ l.label → get_or v.targets k 0 ≡ suc (length w.done) → ⊥
                never k q at =
                    let zero_here : get_or v.targets (n + 1) 0 ≡ 0 = mv.targets.same (n + 1) (omega (arith, two)) ∙ second_zero w.targets (length w.done + 1) in
                    absurd (omega (arith, sym at ∙ ap (λ (j : ℕ). get_or v.targets j 0) (q ∙ label) ∙ zero_here))

    -- ---- choices

    module _ (P : ℕ → Type 0) (test : ℕ) (holds : Bool) (w v u : Work) (o : Open) (is : w.now ≡ Some o) (t : Table P w) (grow_v : Moves (open_first coder holds test w o) v) (jv : Jumped (Also (Also P (length w.targets + 1)) (length w.targets + 2)) (open_first coder holds test w o) v) (grow_u : Moves (open_second (length w.targets + 1) o.values (fall_work (length w.targets + 2) v)) u) (ju : Table (Also P (length w.targets + 2)) (open_second (length w.targets + 1) o.values (fall_work (length w.targets + 2) v)) → Jumped (Also P (length w.targets + 2)) (open_second (length w.targets + 1) o.values (fall_work (length w.targets + 2) v)) u) (ev : Entered (length (open_first coder holds test w o).targets) (opened_in (open_first coder holds test w o)) v) (eu : Entered (length (open_second (length w.targets + 1) o.values (fall_work (length w.targets + 2) v)).targets) (opened_in (open_second (length w.targets + 1) o.values (fall_work (length w.targets + 2) v))) u) where
      abbrev base : ℕ
      base = length w.targets

      abbrev begun : Work
      begun = open_first coder holds test w o

      abbrev fell : Work
      fell = fall_work (base + 2) v

      abbrev other : Work
      other = open_second (base + 1) o.values fell

      abbrev branch : Draft
      branch = record { phis = o.phis; body = o.body ++ (coder (test ∷ []) o.values w.next).code; last = branch_last holds (first_operand (coder (test ∷ []) o.values w.next).operands) base }

      begun_long : length begun.targets ≡ suc (suc (suc base))
      begun_long = long_three w.targets (length w.done + 1) 0 0

      v_longer : suc (suc (suc base)) ≤ length v.targets
      v_longer = omega (arith, begun_long, grow_v.targets.long)

      other_long : length other.targets ≡ length v.targets
      other_long = g_long P core.cells coder holds test w v u o t grow_v jv grow_u ju

      fell_long : length fell.targets ≡ length v.targets
      fell_long = f_long P core.cells coder holds test w v u o t grow_v jv grow_u ju

      jg : Jumped (Also P (base + 2)) other u
      jg = jumped_u P core.cells coder holds test w v u o t grow_v jv grow_u ju

      fell_none : fell.now ≡ None
      fell_none = fall_none (base + 2) v v.now refl

      fell_opened : length fell.done ≡ opened_in v
      fell_opened = fall_opened (base + 2) v v.now refl

      one_more : length (w.done ++ branch ∷ []) ≡ suc (length w.done)
      one_more = pushed w.done branch

      exact_begun : (l : ℕ) → base ≤ l → is_among (targets_of branch.last) l ≡ true → Exact l (way_of w o ∷ []) begun.done
      exact_begun l le e = exact_more l [] w.done branch (way_of w o) e refl (record { by = λ k. ap once (sym (t.pending.fresh l k le)) })

      keep_v : (l : ℕ) → base ≤ l → l < length begun.targets → Keeps begun v l
      keep_v l le lt = moves_keep begun v l grow_v jv.frame lt (below_not base (labels_of w.ends) l t.pending.ends_below le) (below_not base (labels_of w.starts) l t.pending.starts_below le)

      keep_u : (l : ℕ) → base ≤ l → l < length other.targets → Keeps other u l
      keep_u l le lt = let a = apart_f P core.cells coder holds test w v u o t grow_v jv grow_u ju l le in moves_keep other u l grow_u jg.frame lt a.ends a.starts

      keep_f : (l : ℕ) → l ≢ base + 2 → Keeps v fell l
      keep_f l ne = fall_keeps (base + 2) v v.now l refl ne

      v_to_u : (l : ℕ) → base ≤ l → l ≢ base + 1 → l ≢ base + 2 → l < length v.targets → Keeps v u l
      v_to_u l le ne ne' lt = keeps_then v fell u l (keep_f l ne') (keeps_then fell other u l (second_keeps (base + 1) o.values fell l fell_none ne) (keep_u l le (omega (arith, lt, other_long))))

      first_block : EnteredAt base u (suc (length w.done))
      first_block =
          let names = names_first holds (first_operand (coder (test ∷ []) o.values w.next).operands) base in
          entered_by base base begun u (suc (length w.done)) (record {
            label = base;
            fresh = omega arith;
            within = omega (arith, begun_long);
            target = get_or_at w.targets (length w.done + 1) (0 ∷ 0 ∷ []) 0 base refl ∙ add_one (length w.done);
            ways = way_of w o ∷ [];
            exact = exact_begun base (omega arith) names;
            from = length w.done;
            earlier = omega arith;
            names = named_end base w.done branch ∙ names;
            part = Ready [];
            stands = ap (slice_get (phi_list begun)) (sym one_more) ∙ phis_end (w.done ++ branch ∷ []) (Ready []);
            entries = tt;
          }) (omega arith) (keeps_then begun v u base (keep_v base (omega arith) (omega (arith, begun_long))) (v_to_u base (omega arith) (λ h. absurd (omega (arith, h))) (λ h. absurd (omega (arith, h))) (omega (arith, v_longer))))
        where
          add_one : (k : ℕ) → k + 1 ≡ suc k
          add_one k = omega arith

      second_block : EnteredAt base u (length fell.done)
      second_block =
          let names = names_second holds (first_operand (coder (test ∷ []) o.values w.next).operands) base in
          let to_fell = keeps_then begun v fell (base + 1) (keep_v (base + 1) (omega arith) (omega (arith, begun_long))) (keep_f (base + 1) (λ h. absurd (omega (arith, h)))) in
          entered_by base base other u (length fell.done) (record {
            label = base + 1;
            fresh = omega arith;
            within = omega (arith, v_longer, other_long);
            target = get_or-set_same fell.targets (base + 1) (length fell.done) 0 (omega (arith, fell_long, v_longer));
            ways = way_of w o ∷ [];
            exact = record { by = λ k. (exact_begun (base + 1) (omega arith) names).by k ∙ ap once (sym (to_fell.names k)) };
            from = length w.done;
            earlier = omega (arith, fell_opened, opened_least v.now (length v.done), ap length grow_v.done, length-append begun.done grow_v.added, one_more);
            names = to_fell.names (length w.done) ∙ named_end (base + 1) w.done branch ∙ names;
            part = Ready [];
            stands = phis_end fell.done (Ready []);
            entries = tt;
          }) (omega arith) (keep_u (base + 1) (omega arith) (omega (arith, v_longer, other_long)))

      at_u : Entered base (opened_in w) u
      at_u b fb lb = at (cases_lt (suc (length w.done)) b)
        where
          some : opened_in w ≡ suc (length w.done)
          some = opened_some w o is

          later : (length fell.done < b) ⊎ (b ≤ length fell.done) → opened_in v ≤ b → EnteredAt base u b
          later (inl h) le = entered_low base (length other.targets) u b (omega (arith, v_longer, other_long)) (eu b (omega (arith, h)) lb)
          later (inr h) le = let same : length fell.done ≡ b = omega (arith, h, le, fell_opened) in subst (EnteredAt base u) same second_block

          inner : suc (length w.done) < b → (b < opened_in v) ⊎ (opened_in v ≤ b) → EnteredAt base u b
          inner h (inl q) =
              let e = ev b (omega (arith, h, one_more)) q in
              entered_by base (length begun.targets) v u b e (omega (arith, e.fresh, begun_long)) (v_to_u e.label (omega (arith, e.fresh, begun_long)) (λ k. absurd (omega (arith, k, e.fresh, begun_long))) (λ k. absurd (omega (arith, k, e.fresh, begun_long))) e.within)
          inner h (inr q) = later (cases_lt (length fell.done) b) q

          at : (suc (length w.done) < b) ⊎ (b ≤ suc (length w.done)) → EnteredAt base u b
          at (inl h) = inner h (cases_lt b (opened_in v))
          at (inr h) = let same : suc (length w.done) ≡ b = omega (arith, h, fb, some) in subst (EnteredAt base u) same first_block

      -- the join's label has no block yet
      u_zero : get_or u.targets (base + 2) 0 ≡ 0
      u_zero = (keep_u (base + 2) (omega arith) (omega (arith, v_longer, other_long))).target ∙ get_or-set_other fell.targets (base + 1) (base + 2) (length fell.done) 0 (λ h. absurd (omega (arith, h)))
          ∙ ap (λ (y : List ℕ). get_or y (base + 2) 0) (fall_targets (base + 2) v v.now) ∙ (keep_v (base + 2) (omega arith) (omega (arith, begun_long))).target ∙ third_zero w.targets (length w.done + 1)

      choice_entered : (now : Option Open) → v.now ≡ now → Entered base (opened_in w) (join_bodies core.cells (base + 2) (fall_ways v now) u)
      choice_entered None none = at_u
      choice_entered (Some p) some =
          let last = fall_work (base + 2) u in
          let ways = way_of v p ∷ fall_ways u u.now in
          let all = join_work core.cells (base + 2) ways last in
          let none = fall_none (base + 2) u u.now refl in
          let more = u_long P core.cells coder holds test w v u o t grow_v jv grow_u ju in
          let same = last_long P core.cells coder holds test w v u o t grow_v jv grow_u ju in
          join_entered core.cells base (base + 2) ways last (opened_in w) none (omega arith) (omega (arith, more, same))
          (subst (λ (n : Option Open). Exact (base + 2) (fall_ways v n ++ fall_ways u u.now) last.done) some (exact_last P core.cells coder holds test w v u o t grow_v jv grow_u ju))
          (λ b fb lb.
          let e = at_u b fb (omega (arith, lb, fall_opened (base + 2) u u.now refl)) in
          let ne : e.label ≢ base + 2 = λ q. absurd (omega (arith, fb, opened_some w o is, sym e.target ∙ ap (λ (j : ℕ). get_or u.targets j 0) q ∙ u_zero)) in
          entered_by base base u all b e e.fresh (keeps_then u last all e.label (fall_keeps (base + 2) u u.now e.label refl ne) (join_keeps core.cells (base + 2) ways last e.label none ne)))

    -- ---- statements

    pub enters : (s : Stmt) (w : Work) (P : ℕ → Type 0) → IsFit core s → HasLevels s (length w.ends) (length w.starts) → IsValid core.cells w → Table P w → Settles w.lates (lower_of core coder s w).lates lates [] → Entered (length w.targets) (opened_in w) (lower_of core coder s w)
    enters Skip w P fit l ok t st = nothing (length w.targets) (opened_in w) w (omega arith)
    enters (Seq a b) w P fit l ok t st =
        let u = lower_of core coder a w in
        let v = lower_of core coder b u in
        let ea = emits carry keeps core coder isc a w fit.0 l.0 ok in
        let lb = levels_same b w u ea.moves.ends ea.moves.starts l.1 in
        let eb = emits carry keeps core coder isc b u fit.1 lb ea.valid in
        let ja = jumps carry keeps core coder isc a w P fit.0 l.0 ok t in
        let jb = jumps carry keeps core coder isc b u P fit.1 lb ea.valid ja.table in
        let eu = enters a w P fit.0 l.0 ok t (settles_left w.lates u.lates v.lates lates [] (lates_grow core coder b u) st) in
        let ev = enters b u P fit.1 lb ea.valid ja.table (settles_right w.lates u.lates v.lates lates [] (lates_grow core coder a w) st) in
        seq_entered (length w.targets) (length u.targets) (opened_in w) u v ea.moves.targets.long (statement_keep (length w.targets) u v eb.moves jb.frame (below_same (length w.targets) w.ends u.ends ea.moves.ends t.pending.ends_below) (below_same (length w.targets) w.starts u.starts ea.moves.starts t.pending.starts_below)) eu ev
    enters (Assign pairs) w P fit l ok t st = when_entered (length w.targets) w.now w (assign_work coder pairs w) refl st (λ o is st'. nothing (length w.targets) (opened_in w) (assign_work coder pairs w o) (omega (arith, opened_some w o is)))
    enters (Gate leaf) w P fit l ok t st = when_entered (length w.targets) w.now w (gate_work coder leaf w) refl st (λ o is st'. nothing (length w.targets) (opened_in w) (gate_work coder leaf w o) (omega (arith, opened_some w o is)))
    enters (Reset qubit) w P fit l ok t st = when_entered (length w.targets) w.now w (reset_work qubit w) refl st (λ o is st'. nothing (length w.targets) (opened_in w) (reset_work qubit w o) (omega (arith, opened_some w o is)))
    enters (Measure qubit None) w P fit l ok t st = when_entered (length w.targets) w.now w (measure_work qubit None w) refl st (λ o is st'. nothing (length w.targets) (opened_in w) (measure_work qubit None w o) (omega (arith, opened_some w o is)))
    enters (Measure qubit (Some c)) w P fit l ok t st = when_entered (length w.targets) w.now w (measure_work qubit (Some c) w) refl st (λ o is st'. nothing (length w.targets) (opened_in w) (measure_work qubit (Some c) w o) (omega (arith, opened_some w o is)))
    enters (If test a b) w P fit l ok t st =
        when_entered (length w.targets) w.now w (λ o. if reaches b Falls then two_bodies core.cells (length w.targets) o.values (lower_of core coder a (open_first coder true test w o)) (lower_of core coder b) else two_bodies core.cells (length w.targets) o.values (lower_of core coder b (open_first coder false test w o)) (lower_of core coder a)) refl st (λ o is st'.
        let n = length w.targets in
        let x1 = open_first coder true test w o in
        let x2 = open_first coder false test w o in
        let v1 = lower_of core coder a x1 in
        let v2 = lower_of core coder b x2 in
        let g1 = open_second (n + 1) o.values (fall_work (n + 2) v1) in
        let g2 = open_second (n + 1) o.values (fall_work (n + 2) v2) in
        let u1 = lower_of core coder b g1 in
        let u2 = lower_of core coder a g2 in
        let P1 : ℕ → Type 0 = Also (Also P (n + 1)) (n + 2) in
        let P2 : ℕ → Type 0 = Also P (n + 2) in
        let ok1 = open_first_valid core.cells coder true test w o is ok in
        let ok2 = open_first_valid core.cells coder false test w o is ok in
        let e1 = emits carry keeps core coder isc a x1 fit.1 l.0 ok1 in
        let e2 = emits carry keeps core coder isc b x2 fit.2 l.1 ok2 in
        let k1 = second_valid carry keeps core coder isc lates test a true w o is ok e1 in
        let k2 = second_valid carry keeps core coder isc lates test b false w o is ok e2 in
        let l1 = second_levels carry keeps core coder isc lates test a b true w o e1 l.1 in
        let l2 = second_levels carry keeps core coder isc lates test b a false w o e2 l.0 in
        let f1 = emits carry keeps core coder isc b g1 fit.2 l1 k1 in
        let f2 = emits carry keeps core coder isc a g2 fit.1 l2 k2 in
        let t1 = first_table P coder true test w o t in
        let t2 = first_table P coder false test w o t in
        let j1 = jumps carry keeps core coder isc a x1 P1 fit.1 l.0 ok1 t1 in
        let j2 = jumps carry keeps core coder isc b x2 P1 fit.2 l.1 ok2 t2 in
        let i1 : Table P2 g1 → Jumped P2 g1 u1 = λ q. jumps carry keeps core coder isc b g1 P2 fit.2 l1 k1 q in
        let i2 : Table P2 g2 → Jumped P2 g2 u2 = λ q. jumps carry keeps core coder isc a g2 P2 fit.1 l2 k2 q in
        let s1 = jumped_table P core.cells coder true test w v1 u1 o t e1.moves j1 f1.moves i1 in
        let s2 = jumped_table P core.cells coder false test w v2 u2 o t e2.moves j2 f2.moves i2 in
        either_entered n (opened_in w) w (two_bodies core.cells n o.values v1 (lower_of core coder b)) (two_bodies core.cells n o.values v2 (lower_of core coder a)) (reaches b Falls)
        (λ s. let both = both_settle carry keeps core coder isc lates a b w x1 n o.values refl s in choice_entered P test true w v1 u1 o is t e1.moves j1 f1.moves i1 (enters a x1 P1 fit.1 l.0 ok1 t1 both.first) (enters b g1 P2 fit.2 l1 k1 s1 both.second) v1.now refl)
        (λ s. let both = both_settle carry keeps core coder isc lates b a w x2 n o.values refl s in choice_entered P test false w v2 u2 o is t e2.moves j2 f2.moves i2 (enters b x2 P1 fit.2 l.1 ok2 t2 both.first) (enters a g2 P2 fit.1 l2 k2 s2 both.second) v2.now refl)
        st')
    enters (Block a) w P fit l ok t st = when_entered (length w.targets) w.now w (λ o. let v = leave_zero (lower_of core coder a (open_end w)) in close_end core.cells v.ends v) refl st (λ o is st'.
        let w1 = open_end w in
        let u = lower_of core coder a w1 in
        let v = leave_zero u in
        let ok1 = open_end_valid core.cells w ok in
        let em = emits carry keeps core coder isc a w1 fit l ok1 in
        let t1 = open_end_table P w t in
        let bm = (body_emits carry keeps core coder isc a w1 u (omega arith) em).moves in
        let inner : Settles w.lates u.lates lates [] = subst (λ (y : List (List Phi)). Settles w.lates y lates []) (close_end_lates core.cells v.ends v ∙ leave_lates 0 u u.now) st' in
        block_entered P w u v v.ends (body_of P a w1 u (omega arith) t1 em (jumps carry keeps core coder isc a w1 P fit l ok1 t1)) bm.ends (omega (arith, ap length (leave_moves u u.now).0)) em.moves.targets.long refl (enters a w1 P fit l ok1 t1 inner))
    enters (Loop a) w P fit l ok t st =
        when_entered (length w.targets) w.now w (λ o.
        let needs = start_needs core.exprs a o.values in
        let v = leave_zero (lower_of core coder a (open_loop core.cells needs w o)) in
        close_end core.cells v.ends (close_start core.cells needs (length w.lates) w.next v.starts v)) refl st (λ o is st'.
        let needs = start_needs core.exprs a o.values in
        let w1 = open_loop core.cells needs w o in
        let u = lower_of core coder a w1 in
        let v = leave_zero u in
        let ok1 = open_loop_valid core.cells needs w o is ok in
        let em = emits carry keeps core coder isc a w1 fit l ok1 in
        let t1 = open_loop_table core.cells P needs w o is t in
        let bm = (body_emits carry keeps core coder isc a w1 u (omega arith) em).moves in
        let kept = loop_lates lates core.cells needs w o u v v.ends v.starts (leave_lates 0 u u.now) (lates_grow core coder a w1) st' in
        loop_entered P a w u v o v.ends v.starts is (body_of P a w1 u (omega arith) t1 em (jumps carry keeps core coder isc a w1 P fit l ok1 t1)) bm (omega (arith, ap length (leave_moves u u.now).0)) refl refl st' (enters a w1 P fit l ok1 t1 kept.inner))
    enters (Leave k) w P fit l ok t st = when_entered (length w.targets) w.now w (leave_work k w) refl st (λ o is st'. nothing (length w.targets) (opened_in w) (leave_work k w o) (omega (arith, opened_some w o is, pushed w.done (closed o (Jump (label_at w.ends k))))))
    enters (Again k) w P fit l ok t st = when_entered (length w.targets) w.now w (again_work k w) refl st (λ o is st'. nothing (length w.targets) (opened_in w) (again_work k w o) (omega (arith, opened_some w o is, pushed w.done (closed o (Jump (label_at w.starts k))))))
