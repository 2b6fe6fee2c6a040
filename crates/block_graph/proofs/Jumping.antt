-- The labels that are open, and those that have their blocks, while each statement is lowered.
use Rattle.std.proofs.Common.{◌≡◌, ◌≢◌, ℕ, suc, ◌+◌, ◌<◌, ◌≤◌, ◌⊎◌, inl, inr, ⊎_elim, Bool, true, false, ◌||◌, List, [], ◌∷◌, ◌++◌, length, get_or, Option, Some, None, refl, sym, ap, ◌∙◌, subst, arith, append-nil, length-append, length-set, get_or-set_same, get_or-set_other, nat_eq, eqb-true}
use Rattle.std.specs.Prelude.{slice_set, if◌then◌else◌}
use Rattle.std.proofs.lemmas.List.{get_or_at}
use Rattle.qir_module.specs.declared.instruction.Operand.{Operand}
use Rattle.qir_module.specs.declared.instruction.Operand.TheVariants.{Register}
use Rattle.qir_module.specs.declared.instruction.Last.TheVariants.{Jump}
use Rattle.qir_module.specs.Carried.{targets_of}
use Rattle.qir_module.specs.Numbered.{is_among}
use Rattle.core_ir.specs.declared.expression.CellKind.{CellKind}
use Rattle.core_ir.specs.Core.{Core}
use Rattle.core_ir.specs.Size.{pair_exprs, leaf_exprs}
use Rattle.core_ir.specs.Tree.{Stmt, Skip, Seq, Assign, Gate, Reset, Measure, If, Block, Loop, Leave, Again}
use Rattle.core_ir.specs.Ways.{Falls, reaches}
use Rattle.core_ir.specs.WellFormed.{HasLevels}
use Rattle.phi_place.specs.State.{CellState}
use Rattle.phi_place.specs.Phis.{WaysCarry, SameWhereNotDiffer}
use Rattle.block_graph.specs.Fitting.{IsFit}
use Rattle.block_graph.specs.Work.{Draft, Level, Open, Work}
use Rattle.block_graph.specs.Lowering.{Coder, IsCoder, stored, gate_call, reset_call, measure_call, read_call, closed, close, way_of, when_open, assign_work, gate_work, reset_work, measure_work, leave_work, again_work, leave_zero, open_end, close_end, start_needs, open_loop, close_start, branch_last, first_operand, open_first, fall_work, fall_ways, open_second, join_bodies, two_bodies, lower_of}
use Rattle.block_graph.proofs.Flow.{or_cases, fall_ends, fall_starts, fall_none, leave_none}
use Rattle.block_graph.proofs.Jumps.{IsIn, once, named, times, named_kept, Exact, exact_more, labels_of, one_target, one_target_is, one_target_eq, Pending, pending_push, pending_more, settled_push, settled_same, settled_set, settled_drop}
use Rattle.block_graph.proofs.Tables.{blocks_opened, waits, Table, Frame, Jumped, same_labels, frame_then, jumped_same, jumped_when, straight_jumped, pushed, opened_le, leave_jumped, again_jumped, fall_jumped, open_end_table, join_table, join_done, settled_none, below_not, get_front, two_zero, end_table, end_done, long_one, long_two, long_three, open_loop_table, close_start_table, close_start_done}
use Rattle.block_graph.proofs.Moving.{IsValid, SameLevels, same_length, same_then, Moves, Emits}
use Rattle.block_graph.proofs.Emitting.{now_of}
use Rattle.block_graph.proofs.Choosing.{fallen}
use Rattle.block_graph.proofs.Whole.{open_end_valid, open_loop_valid, open_first_valid, open_second_valid, levels_same, emits}

-- the labels of a choice, and what is said of the two bodies
abbrev pub Also : (ℕ → Type 0) → ℕ → ℕ → Type 0
Also P at l = P l ⊎ (l ≡ at)

pub branch_targets : (holds : Bool) (v : Operand) (label l : ℕ) → is_among (targets_of (branch_last holds v label)) l ≡ true → (l ≡ label) ⊎ (l ≡ label + 1)
branch_targets true v label l e = ⊎_elim (λ h. inl (eqb-true l label h)) (λ h. inr (one_target_eq (label + 1) l h)) (or_cases (nat_eq l label) (nat_eq l (label + 1) || false) e)
branch_targets false v label l e = ⊎_elim (λ h. inr (eqb-true l (label + 1) h)) (λ h. inl (one_target_eq label l h)) (or_cases (nat_eq l (label + 1)) (nat_eq l label || false) e)

pub not_branched : (holds : Bool) (v : Operand) (label l : ℕ) → l ≢ label → l ≢ label + 1 → is_among (targets_of (branch_last holds v label)) l ≡ false
not_branched holds v label l a b = at (is_among (targets_of (branch_last holds v label)) l) refl
  where
    at : (n : Bool) → is_among (targets_of (branch_last holds v label)) l ≡ n → n ≡ false
    at true e = absurd (⊎_elim a b (branch_targets holds v label l e))
    at false e = refl

pub first_table : (P : ℕ → Type 0) (coder : Coder) (holds : Bool) (test : ℕ) (w : Work) (o : Open) → Table P w → Table (Also (Also P (length w.targets + 1)) (length w.targets + 2)) (open_first coder holds test w o)
first_table P coder holds test w o t =
    let p = t.pending in
    let n = length w.targets in
    let b = length w.done + 1 in
    let c = coder (test ∷ []) o.values w.next in
    let v = first_operand c.operands in
    let d : Draft = record { phis = o.phis; body = o.body ++ c.code; last = branch_last holds v n } in
    let new = w.targets ++ b ∷ 0 ∷ 0 ∷ [] in
    let long = long_three w.targets b 0 0 in
    let Q : ℕ → Type 0 = Also (Also P (n + 1)) (n + 2) in
    let dl = pushed w.done d in
    record {
      pending = pending_push w.done (length new) w.ends w.starts d (λ l i. ⊎_elim (λ h. (omega (arith, h, long), below_not n (labels_of w.ends) l p.ends_below (omega (arith, h)), below_not n (labels_of w.starts) l p.starts_below (omega (arith, h)))) (λ h. (omega (arith, h, long), below_not n (labels_of w.ends) l p.ends_below (omega (arith, h)), below_not n (labels_of w.starts) l p.starts_below (omega (arith, h)))) (branch_targets holds v n l i)) (pending_more w.done n (length new) w.ends w.starts (omega (arith, long)) p);
      settled = settled_same (w.done ++ d ∷ []) (λ l. get_or new l 0) (λ l. get_or new l 0) (suc b) (suc (length (w.done ++ d ∷ []))) (waits Q w) (waits Q (open_first coder holds test w o)) (λ l. refl) (omega (arith, dl)) (λ l i. i) (settled_set (w.done ++ d ∷ []) (λ l. get_or w.targets l 0) (λ l. get_or new l 0) (suc (length w.done)) b n (λ l. (l ≡ n) ⊎ waits Q w l) (waits Q w) (get_or_at w.targets b (0 ∷ 0 ∷ []) 0 n refl) (λ l ne. get_front w.targets (0 ∷ 0 ∷ []) b l ne two_zero) (omega arith) (omega arith) (λ l i. i) (settled_push w.done (λ l. get_or w.targets l 0) (blocks_opened w.now (length w.done)) (suc (length w.done)) (λ l. (l ≡ n) ⊎ waits Q w l) d (opened_le w.now (length w.done)) (λ l i. inr (⊎_elim (λ h. inl h) (λ h. inr (inl (inl (inr h)))) (branch_targets holds v n l i))) (settled_same w.done (λ l. get_or w.targets l 0) (λ l. get_or w.targets l 0) (blocks_opened w.now (length w.done)) (blocks_opened w.now (length w.done)) (waits P w) (λ l. (l ≡ n) ⊎ waits Q w l) (λ l. refl) (omega arith) (λ l i. inr (⊎_elim (λ h. inl (inl (inl h))) (λ h. inr h) i)) t.settled)));
    }

-- the second body is opened
pub second_table : (P : ℕ → Type 0) (label : ℕ) (values : List Operand) (f : Work) → f.now ≡ None → label + 1 < length f.targets → 0 < length f.done → Table (Also (Also P (label + 1)) (label + 2)) f → Table (Also P (label + 2)) (open_second (label + 1) values f)
second_table P label values f none lt pos t = record {
  pending = subst (λ n. Pending f.done n f.ends f.starts) (sym (length-set f.targets (label + 1) (length f.done))) t.pending;
  settled = settled_set f.done (λ l. get_or f.targets l 0) (λ l. get_or (slice_set f.targets (label + 1) (length f.done)) l 0) (length f.done) (length f.done) (label + 1) (waits (Also (Also P (label + 1)) (label + 2)) f) (waits (Also P (label + 2)) (open_second (label + 1) values f)) (get_or-set_same f.targets (label + 1) (length f.done) 0 lt) (λ l ne. get_or-set_other f.targets (label + 1) l (length f.done) 0 ne) (omega arith) pos (λ l i. ⊎_elim (λ h. ⊎_elim (λ g. ⊎_elim (λ y. inr (inl (inl y))) (λ y. inl y) g) (λ g. inr (inl (inr g))) h) (λ h. inr (inr h)) i) (settled_none (Also (Also P (label + 1)) (label + 2)) f none t);
}

-- a label that is no level's
pub record Apart (l : ℕ) (w : Work) : Type 0 where
  pub ends : IsIn l (labels_of w.ends) → ⊥
  pub starts : IsIn l (labels_of w.starts) → ⊥

pub apart_moves : (l : ℕ) (w v : Work) → SameLevels w.ends v.ends → SameLevels w.starts v.starts → Apart l w → Apart l v
apart_moves l w v e h a = record { ends = λ i. a.ends (subst (IsIn l) (same_labels w.ends v.ends e) i); starts = λ i. a.starts (subst (IsIn l) (same_labels w.starts v.starts h) i) }

pub fall_exact : (label : ℕ) (u : Work) (n : Option Open) (ws : List CellState) → u.now ≡ n → Exact label ws u.done → Exact label (ws ++ fall_ways u n) (when_open n u (λ o. close u o (Jump label))).done
fall_exact label u None ws e x = subst (λ (l : List CellState). Exact label l u.done) (sym (append-nil ws)) x
fall_exact label u (Some o) ws e x = exact_more label ws u.done (closed o (Jump label)) (way_of u o) (one_target_is label) refl x

pub fall_targets : (j : ℕ) (v : Work) (n : Option Open) → (when_open n v (λ o. close v o (Jump j))).targets ≡ v.targets
fall_targets j v None = refl
fall_targets j v (Some o) = refl

pub fall_named : (j l : ℕ) (v : Work) (n : Option Open) (k : ℕ) → l ≢ j → named l (when_open n v (λ o. close v o (Jump j))).done k ≡ named l v.done k
fall_named j l v None k ne = refl
fall_named j l v (Some o) k ne = named_kept l v.done (closed o (Jump j)) k (one_target j l (λ h. ne (sym h)))

-- a choice, from what is known of the bodies
module _ (P : ℕ → Type 0) (kinds : List CellKind) (coder : Coder) (holds : Bool) (test : ℕ) (w v u : Work) (o : Open) (t : Table P w) (grow_v : Moves (open_first coder holds test w o) v) (jv : Jumped (Also (Also P (length w.targets + 1)) (length w.targets + 2)) (open_first coder holds test w o) v) (grow_u : Moves (open_second (length w.targets + 1) o.values (fall_work (length w.targets + 2) v)) u) (ju : Table (Also P (length w.targets + 2)) (open_second (length w.targets + 1) o.values (fall_work (length w.targets + 2) v)) → Jumped (Also P (length w.targets + 2)) (open_second (length w.targets + 1) o.values (fall_work (length w.targets + 2) v)) u) where
  abbrev pub n : ℕ
  n = length w.targets

  abbrev pub w1 : Work
  w1 = open_first coder holds test w o

  abbrev pub f : Work
  f = fall_work (n + 2) v

  abbrev pub g : Work
  g = open_second (n + 1) o.values f

  pub w1_long : length w1.targets ≡ suc (suc (suc n))
  w1_long = long_three w.targets (length w.done + 1) 0 0

  pub v_long : suc (suc (suc n)) ≤ length v.targets
  v_long = omega (arith, w1_long, grow_v.targets.long)

  pub f_long : length f.targets ≡ length v.targets
  f_long = ap length (fall_targets (n + 2) v v.now)

  pub g_long : length g.targets ≡ length v.targets
  g_long = length-set f.targets (n + 1) (length f.done) ∙ f_long

  pub apart : (l : ℕ) → n ≤ l → Apart l w
  apart l le = record { ends = below_not n (labels_of w.ends) l t.pending.ends_below le; starts = below_not n (labels_of w.starts) l t.pending.starts_below le }

  pub apart_v : (l : ℕ) → n ≤ l → Apart l v
  apart_v l le = apart_moves l w v grow_v.ends grow_v.starts (apart l le)

  pub apart_f : (l : ℕ) → n ≤ l → Apart l f
  apart_f l le = let a = apart_v l le in record { ends = λ i. a.ends (subst (λ x. IsIn l (labels_of x)) (fall_ends (n + 2) v v.now) i); starts = λ i. a.starts (subst (λ x. IsIn l (labels_of x)) (fall_starts (n + 2) v v.now) i) }

  pub apart_u : (l : ℕ) → n ≤ l → Apart l u
  apart_u l le = apart_moves l g u grow_u.ends grow_u.starts (let a = apart_f l le in record { ends = a.ends; starts = a.starts })

  pub f_table : Table (Also (Also P (n + 1)) (n + 2)) f
  f_table = let a = apart_v (n + 2) (omega arith) in fall_jumped (Also (Also P (n + 1)) (n + 2)) (n + 2) v v.now refl (inr refl) (omega (arith, v_long)) a.ends a.starts jv.table

  pub w1_some : (d : Draft) → 0 < length (w.done ++ d ∷ [])
  w1_some d = let p = pushed w.done d in omega (arith, p)

  pub fall_longer : (j : ℕ) (x : Work) (now : Option Open) → length x.done ≤ length (when_open now x (λ o. close x o (Jump j))).done
  fall_longer j x None = omega arith
  fall_longer j x (Some p) = let q = pushed x.done (closed p (Jump j)) in omega (arith, q)

  pub f_some : 0 < length f.done
  f_some =
      let d : Draft = record { phis = o.phis; body = o.body ++ (coder (test ∷ []) o.values w.next).code; last = branch_last holds (first_operand (coder (test ∷ []) o.values w.next).operands) n } in
      let a = w1_some d in
      let b = ap length grow_v.done in
      let c = length-append (w.done ++ d ∷ []) grow_v.added in
      let h = fall_longer (n + 2) v v.now in
      omega (arith, a, b, c, h)

  pub jumped_table : Table (Also P (n + 2)) g
  jumped_table = second_table P n o.values f (fall_none (n + 2) v v.now refl) (omega (arith, v_long, f_long)) f_some f_table

  pub jumped_u : Jumped (Also P (n + 2)) g u
  jumped_u = ju (second_table P n o.values f (fall_none (n + 2) v v.now refl) (omega (arith, v_long, f_long)) f_some f_table)

  -- labels other than those of the choice
  pub named_all : (l k : ℕ) → l < n → (IsIn l (labels_of w.ends) → ⊥) → (IsIn l (labels_of w.starts) → ⊥) → named l u.done k ≡ named l w.done k
  named_all l k lt ne nh =
      let av = apart_moves l w v grow_v.ends grow_v.starts (record { ends = ne; starts = nh }) in
      jumped_u.frame.by l (omega (arith, lt, v_long, g_long)) (λ i. av.ends (subst (λ x. IsIn l (labels_of x)) (fall_ends (n + 2) v v.now) i)) (λ i. av.starts (subst (λ x. IsIn l (labels_of x)) (fall_starts (n + 2) v v.now) i)) k
      ∙ fall_named (n + 2) l v v.now k (λ h. absurd (omega (arith, h, lt)))
      ∙ jv.frame.by l (omega (arith, lt, w1_long)) ne nh k
      ∙ named_kept l w.done (record { phis = o.phis; body = o.body ++ (coder (test ∷ []) o.values w.next).code; last = branch_last holds (first_operand (coder (test ∷ []) o.values w.next).operands) n }) k (not_branched holds (first_operand (coder (test ∷ []) o.values w.next).operands) n l (λ h. absurd (omega (arith, h, lt))) (λ h. absurd (omega (arith, h, lt))))

  -- the join's label is named only at the ends of the bodies
  pub join_v : (k : ℕ) → named (n + 2) v.done k ≡ false
  join_v k =
      let a = apart (n + 2) (omega arith) in
      jv.frame.by (n + 2) (omega (arith, w1_long)) a.ends a.starts k ∙ named_kept (n + 2) w.done (record { phis = o.phis; body = o.body ++ (coder (test ∷ []) o.values w.next).code; last = branch_last holds (first_operand (coder (test ∷ []) o.values w.next).operands) n }) k (not_branched holds (first_operand (coder (test ∷ []) o.values w.next).operands) n (n + 2) (λ h. absurd (omega (arith, h))) (λ h. absurd (omega (arith, h)))) ∙ t.pending.fresh (n + 2) k (omega arith)

  pub exact_f : Exact (n + 2) (fall_ways v v.now) f.done
  exact_f = fall_exact (n + 2) v v.now [] refl (record { by = λ k. ap once (sym (join_v k)) })

  pub exact_u : Exact (n + 2) (fall_ways v v.now) u.done
  exact_u = let a = apart_f (n + 2) (omega arith) in record { by = λ k. exact_f.by k ∙ ap once (sym (jumped_u.frame.by (n + 2) (omega (arith, v_long, g_long)) a.ends a.starts k)) }

  abbrev pub last : Work
  last = fall_work (n + 2) u

  pub u_long : suc (suc (suc n)) ≤ length u.targets
  u_long = omega (arith, v_long, g_long, grow_u.targets.long)

  pub last_long : length last.targets ≡ length u.targets
  last_long = ap length (fall_targets (n + 2) u u.now)

  pub last_table : Table (Also P (n + 2)) last
  last_table = let a = apart_u (n + 2) (omega arith) in fall_jumped (Also P (n + 2)) (n + 2) u u.now refl (inr refl) (omega (arith, u_long)) a.ends a.starts jumped_u.table

  pub exact_last : Exact (n + 2) (fall_ways v v.now ++ fall_ways u u.now) last.done
  exact_last = fall_exact (n + 2) u u.now (fall_ways v v.now) refl exact_u

  pub bodies_jumped : (ways : List CellState) → ways ≡ fall_ways v v.now → Jumped P w (join_bodies kinds (n + 2) ways u)
  bodies_jumped [] e' = record {
    table = record { pending = jumped_u.table.pending; settled = settled_drop u.done (λ l. get_or u.targets l 0) (blocks_opened u.now (length u.done)) (n + 2) (waits (Also P (n + 2)) u) (waits P u) (λ k. once_none (named (n + 2) u.done k) (ap (times k) e' ∙ exact_u.by k)) (λ l i. ⊎_elim (λ h. ⊎_elim (λ x. inr (inl x)) (λ x. inl x) h) (λ h. inr (inr h)) i) jumped_u.table.settled };
    frame = record { by = λ l lt ne nh k. named_all l k lt ne nh };
  }
    where
      once_none : (b : Bool) → 0 ≡ once b → b ≡ false
      once_none true h = absurd (omega (arith, h))
      once_none false h = refl
  bodies_jumped (way ∷ ways) e' =
      let all = (way ∷ ways) ++ fall_ways u u.now in
      record {
        table = join_table kinds P (waits (Also P (n + 2)) last) (n + 2) all last (fall_none (n + 2) u u.now refl) (omega (arith, u_long, last_long)) last_table.pending (subst (λ (x : List CellState). Exact (n + 2) (x ++ fall_ways u u.now) last.done) (sym e') exact_last) (settled_none (Also P (n + 2)) last (fall_none (n + 2) u u.now refl) last_table) (λ l i. ⊎_elim (λ h. ⊎_elim (λ x. inr (inl x)) (λ x. inl x) h) (λ h. inr (inr h)) i);
        frame = record { by = λ l lt ne nh k. ap (λ (d : List Draft). named l d k) (join_done kinds (n + 2) all last) ∙ fall_named (n + 2) l u u.now k (λ h. absurd (omega (arith, h, lt))) ∙ named_all l k lt ne nh };
      }

-- what is left of the levels behind a block: its own end's label stands in front
pub block_frame : (w v : Work) (l0 : Level) → length w.targets ≤ l0.label → Frame (record w { targets = w.targets ++ 0 ∷ []; ends = l0 ∷ w.ends }) v → Frame w v
block_frame w v l0 le f = record { by = λ l lt ne nh k. let long = long_one w.targets in f.by l (omega (arith, lt, long)) (λ i. ⊎_elim (λ h. absurd (omega (arith, h, lt, le))) ne i) nh k }

pub loop_frame : (kinds : List CellKind) (needs : ℕ → Bool) (w v : Work) (o : Open) → Frame (open_loop kinds needs w o) v → Frame w v
loop_frame kinds needs w v o f = record {
  by = λ l lt ne nh k.
      let long = long_two w.targets (length w.done + 1) 0 in
      f.by l (omega (arith, lt, long)) (λ i. ⊎_elim (λ h. absurd (omega (arith, h, lt))) ne i) (λ i. ⊎_elim (λ h. absurd (omega (arith, h, lt))) nh i) k ∙ named_kept l w.done (closed o (Jump (length w.targets))) k (one_target (length w.targets) l (λ h. absurd (omega (arith, h, lt))));
}

-- the first label of levels that are the same
pub head_label : (h0 : Level) (ws hs : List Level) (h : Level) (ks : List Level) → SameLevels (h0 ∷ ws) hs → hs ≡ h ∷ ks → h.label ≡ h0.label
head_label h0 ws hs h ks s e = (subst (λ x. SameLevels (h0 ∷ ws) x) e s).0

-- a body, with what falls off its end
pub body_jumped : (P : ℕ → Type 0) (w u : Work) → Moves w u → 0 < length w.ends → Jumped P w u → Jumped P w (leave_zero u)
body_jumped P w u a lt j =
    let l = jumped_when P u.now u (leave_work 0 u) refl j.table (λ o is. leave_jumped P 0 u o (omega (arith, lt, same_length w.ends u.ends a.ends)) j.table) in
    record { table = l.table; frame = frame_then w u (leave_zero u) a.targets.long a.ends a.starts j.frame l.frame }

pub leave_moves : (u : Work) (now : Option Open) → ((when_open now u (leave_work 0 u)).targets ≡ u.targets) × ((when_open now u (leave_work 0 u)).starts ≡ u.starts)
leave_moves u None = (refl, refl)
leave_moves u (Some o) = (refl, refl)

-- ---- statements

either_jumped : (P : ℕ → Type 0) (r : Bool) (w x z : Work) → Jumped P w x → Jumped P w z → Jumped P w (if r then x else z)
either_jumped P true w x z f g = f
either_jumped P false w x z f g = g

module _ (carry : WaysCarry) (keeps : SameWhereNotDiffer) (core : Core) (coder : Coder) (isc : IsCoder core coder) where
  choice_jumped : (test : ℕ) (a b : Stmt) (holds : Bool) (w : Work) (o : Open) (P : ℕ → Type 0) → w.now ≡ Some o → IsValid core.cells w → Table P w → Emits core a (open_first coder holds test w o) (lower_of core coder a (open_first coder holds test w o))
      → ((Q : ℕ → Type 0) → Table Q (open_first coder holds test w o) → Jumped Q (open_first coder holds test w o) (lower_of core coder a (open_first coder holds test w o)))
      → ((g : Work) → IsValid core.cells g → SameLevels w.ends g.ends → SameLevels w.starts g.starts → Emits core b g (lower_of core coder b g) × ((Q : ℕ → Type 0) → Table Q g → Jumped Q g (lower_of core coder b g)))
      → Jumped P w (two_bodies core.cells (length w.targets) o.values (lower_of core coder a (open_first coder holds test w o)) (lower_of core coder b))
  choice_jumped test a b holds w o P is ok t ea first second =
      let n = length w.targets in
      let v = lower_of core coder a (open_first coder holds test w o) in
      let cells = now_of core.cells w o is ok in
      let fell = fallen core.cells (n + 2) v v.now refl ea.valid in
      let f = fall_work (n + 2) v in
      let more : w.next ≤ w.next + length (coder (test ∷ []) o.values w.next).code = omega arith in
      let g = open_second (n + 1) o.values f in
      let valid = open_second_valid core.cells (n + 1) w.next o.values f cells (omega (arith, fell.next, ea.moves.next, more)) fell.valid in
      let two = second g valid (same_then w.ends v.ends f.ends ea.moves.ends fell.moves.ends) (same_then w.starts v.starts f.starts ea.moves.starts fell.moves.starts) in
      bodies_jumped P core.cells coder holds test w v (lower_of core coder b g) o t ea.moves (first (Also (Also P (n + 1)) (n + 2)) (first_table P coder holds test w o t)) two.0.moves (λ q. two.1 (Also P (n + 2)) q) (fall_ways v v.now) refl

  pub jumps : (s : Stmt) (w : Work) (P : ℕ → Type 0) → IsFit core s → HasLevels s (length w.ends) (length w.starts) → IsValid core.cells w → Table P w → Jumped P w (lower_of core coder s w)
  jumps Skip w P fit l ok t = jumped_same P w t
  jumps (Seq a b) w P fit l ok t =
      let ea = emits carry keeps core coder isc a w fit.0 l.0 ok in
      let u = lower_of core coder a w in
      let ja = jumps a w P fit.0 l.0 ok t in
      let jb = jumps b u P fit.1 (levels_same b w u ea.moves.ends ea.moves.starts l.1) ea.valid ja.table in
      record { table = jb.table; frame = frame_then w u (lower_of core coder b u) ea.moves.targets.long ea.moves.ends ea.moves.starts ja.frame jb.frame }
  jumps (Assign pairs) w P fit l ok t = jumped_when P w.now w (assign_work coder pairs w) refl t (λ o is.
      let c = coder (pair_exprs pairs) o.values w.next in
      straight_jumped P w (record o { body = o.body ++ c.code; values = stored pairs c.operands o.values }) (w.next + length c.code) w.results t)
  jumps (Gate leaf) w P fit l ok t = jumped_when P w.now w (gate_work coder leaf w) refl t (λ o is.
      let c = coder (leaf_exprs leaf) o.values w.next in
      straight_jumped P w (record o { body = o.body ++ (c.code ++ gate_call leaf c.operands ∷ []); values = o.values }) (w.next + length c.code) w.results t)
  jumps (Reset qubit) w P fit l ok t = jumped_when P w.now w (reset_work qubit w) refl t (λ o is. straight_jumped P w (record o { body = o.body ++ reset_call qubit ∷ []; values = o.values }) w.next w.results t)
  jumps (Measure qubit None) w P fit l ok t = jumped_when P w.now w (measure_work qubit None w) refl t (λ o is. straight_jumped P w (record o { body = o.body ++ measure_call qubit w.results ∷ []; values = o.values }) w.next (suc w.results) t)
  jumps (Measure qubit (Some c)) w P fit l ok t = jumped_when P w.now w (measure_work qubit (Some c) w) refl t (λ o is. straight_jumped P w (record o { body = o.body ++ measure_call qubit w.results ∷ read_call w.next w.results ∷ []; values = slice_set o.values c (Register w.next) }) (suc w.next) (suc w.results) t)
  jumps (If test a b) w P fit l ok t =
      jumped_when P w.now w (λ o. if reaches b Falls then two_bodies core.cells (length w.targets) o.values (lower_of core coder a (open_first coder true test w o)) (lower_of core coder b) else two_bodies core.cells (length w.targets) o.values (lower_of core coder b (open_first coder false test w o)) (lower_of core coder a)) refl t (λ o is.
      let oka = open_first_valid core.cells coder true test w o is ok in
      let okb = open_first_valid core.cells coder false test w o is ok in
      either_jumped P (reaches b Falls) w (two_bodies core.cells (length w.targets) o.values (lower_of core coder a (open_first coder true test w o)) (lower_of core coder b)) (two_bodies core.cells (length w.targets) o.values (lower_of core coder b (open_first coder false test w o)) (lower_of core coder a))
      (choice_jumped test a b true w o P is ok t (emits carry keeps core coder isc a (open_first coder true test w o) fit.1 l.0 oka) (λ q m. jumps a (open_first coder true test w o) q fit.1 l.0 oka m) (λ g vg se ss. (emits carry keeps core coder isc b g fit.2 (levels_same b w g se ss l.1) vg, λ q m. jumps b g q fit.2 (levels_same b w g se ss l.1) vg m)))
      (choice_jumped test b a false w o P is ok t (emits carry keeps core coder isc b (open_first coder false test w o) fit.2 l.1 okb) (λ q m. jumps b (open_first coder false test w o) q fit.2 l.1 okb m) (λ g vg se ss. (emits carry keeps core coder isc a g fit.1 (levels_same a w g se ss l.0) vg, λ q m. jumps a g q fit.1 (levels_same a w g se ss l.0) vg m))))
  jumps (Block a) w P fit l ok t = jumped_when P w.now w (λ o. let v = leave_zero (lower_of core coder a (open_end w)) in close_end core.cells v.ends v) refl t (λ o is.
      let w1 = open_end w in
      let u = lower_of core coder a w1 in
      let v = leave_zero u in
      let ok1 = open_end_valid core.cells w ok in
      let em = emits carry keeps core coder isc a w1 fit l ok1 in
      let j = body_jumped P w1 u em.moves (omega arith) (jumps a w1 P fit l ok1 (open_end_table P w t)) in
      record {
        table = end_table core.cells P v v.ends refl (leave_none u u.now refl) j.table;
        frame = block_frame w (close_end core.cells v.ends v) (record { label = length w.targets; block = 0; ways = [] }) (omega arith) (record { by = λ x lt ne nh k. ap (λ (d : List Draft). named x d k) (end_done core.cells v v.ends) ∙ j.frame.by x lt ne nh k });
      })
  jumps (Loop a) w P fit l ok t =
      jumped_when P w.now w (λ o.
      let needs = start_needs core.exprs a o.values in
      let v = leave_zero (lower_of core coder a (open_loop core.cells needs w o)) in
      close_end core.cells v.ends (close_start core.cells needs (length w.lates) w.next v.starts v)) refl t (λ o is.
      let needs = start_needs core.exprs a o.values in
      let w1 = open_loop core.cells needs w o in
      let n = length w.targets in
      let b = length w.done + 1 in
      let u = lower_of core coder a w1 in
      let v = leave_zero u in
      let lv = leave_moves u u.now in
      let ok1 = open_loop_valid core.cells needs w o is ok in
      let em = emits carry keeps core coder isc a w1 fit l ok1 in
      let j = body_jumped P w1 u em.moves (omega arith) (jumps a w1 P fit l ok1 (open_loop_table core.cells P needs w o is t)) in
      let v2 = close_start core.cells needs (length w.lates) w.next v.starts v in
      let hd = close_start_done core.cells needs (length w.lates) w.next v v.starts in
      let long = long_two w.targets b 0 in
      let at_start : get_or u.targets n 0 ≡ b = em.moves.targets.same n (omega (arith, long)) ∙ get_or_at w.targets b (0 ∷ []) 0 n refl in
      let pos : (h : Level) (ks : List Level) → v.starts ≡ h ∷ ks → 0 < get_or v.targets h.label 0 = λ h ks e. subst (λ (x : ℕ). 0 < x) (sym (ap (λ (y : List ℕ). get_or y h.label 0) lv.0 ∙ ap (λ (y : ℕ). get_or u.targets y 0) (head_label (record { label = n; block = b; ways = way_of w o ∷ [] }) w.starts u.starts h ks em.moves.starts (sym lv.1 ∙ e)) ∙ at_start)) (omega arith) in
      let t2 = close_start_table core.cells P needs (length w.lates) w.next v v.starts refl pos j.table in
      record {
        table = end_table core.cells P v2 v.ends hd.2 (hd.1 ∙ leave_none u u.now refl) t2;
        frame = loop_frame core.cells needs w (close_end core.cells v.ends v2) o (record { by = λ x lt ne nh k. ap (λ (d : List Draft). named x d k) (end_done core.cells v2 v.ends ∙ hd.0) ∙ j.frame.by x lt ne nh k });
      })
  jumps (Leave k) w P fit l ok t = jumped_when P w.now w (leave_work k w) refl t (λ o is. leave_jumped P k w o l t)
  jumps (Again k) w P fit l ok t = jumped_when P w.now w (again_work k w) refl t (λ o is. again_jumped P k w o l t)
