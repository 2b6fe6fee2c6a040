-- Where a block jumps back, the blocks between are entered from none in front: what is known of labels while each statement is
-- lowered.
use Rattle.std.proofs.Common.{◌≡◌, ◌≢◌, ℕ, zero, suc, ◌+◌, ◌<◌, ◌≤◌, ◌⊎◌, inl, inr, ⊎_elim, Bool, true, false, List, [], ◌∷◌, ◌++◌, map, length, get_or, pos, Option, Some, None, refl, sym, ap, ◌∙◌, subst, arith, length-set, get_or-set_same, get_or-set_other}
use Rattle.std.specs.Prelude.{slice_set, if◌then◌else◌}
use Rattle.std.specs.List.{AllByRecursion}
use Rattle.std.proofs.lemmas.Bool.{cases_lt}
use Rattle.std.proofs.lemmas.List.{get_or_at, get_or_past}
use Rattle.qir_module.specs.declared.instruction.Operand.{Operand}
use Rattle.qir_module.specs.declared.instruction.Last.TheVariants.{Jump, Return}
use Rattle.qir_module.specs.Carried.{targets_of}
use Rattle.qir_module.specs.Numbered.{is_among}
use Rattle.core_ir.specs.declared.expression.CellKind.{CellKind}
use Rattle.core_ir.specs.Core.{Core}
use Rattle.core_ir.specs.Tree.{Stmt, Skip, Seq, Assign, Gate, Reset, Measure, If, Block, Loop, Leave, Again, program_of}
use Rattle.core_ir.specs.Ways.{Falls, reaches}
use Rattle.core_ir.specs.WellFormed.{HasLevels}
use Rattle.phi_place.specs.State.{CellState}
use Rattle.phi_place.specs.Phis.{WaysCarry, SameWhereNotDiffer}
use Rattle.block_graph.specs.Fitting.{IsFit}
use Rattle.block_graph.specs.Laws.{IsLowerable}
use Rattle.block_graph.specs.Work.{Draft, Level, Open, Work}
use Rattle.block_graph.specs.Lowering.{Coder, IsCoder, record_call, closed, close, way_of, add_way, label_at, when_open, leave_work, again_work, leave_zero, join_work, open_end, close_end, start_needs, open_loop, close_start, assign_work, gate_work, reset_work, measure_work, branch_last, first_operand, open_first, fall_work, fall_ways, open_second, join_bodies, two_bodies, lower_of, first_work, end_work, whole_work}
use Rattle.block_graph.proofs.Moving.{IsValid, SameLevels, same_length, Moves}
use Rattle.block_graph.proofs.Choosing.{fallen}
use Rattle.block_graph.proofs.Whole.{open_end_valid, open_loop_valid, open_first_valid, levels_same, body_emits, emits, first_valid, program_fits}
use Rattle.block_graph.proofs.Bounding.{second_valid, second_levels}
use Rattle.block_graph.proofs.Jumps.{IsIn, eq_or, named, named_left, named_within, named_push, named_kept, labels_of, EachBelow, below_in, below_more, label_in, add_labels, one_target, one_target_eq}
use Rattle.block_graph.proofs.Tables.{blocks_opened, Table, Jumped, same_labels, get_front, get_more, zero_one, two_zero, open_end_table, open_loop_table, long_one, long_two, long_three, pushed}
use Rattle.block_graph.proofs.Jumping.{Also, branch_targets, first_table, jumped_table, jumps}
use Rattle.block_graph.proofs.Entering.{second_zero, third_zero}
use Rattle.block_graph.proofs.Targets.{NoLabel, start_table}

-- What is known of a jump back from block b to block h, by its label n: blocks in front name no label behind n, and no block
-- between has a label up to n.
pub record IsBack (done : List Draft) (target : ℕ → ℕ) (n h b : ℕ) : Type 0 where
  pub front : (p l : ℕ) → p < h → n < l → named l done p ≡ false
  pub between : (x l : ℕ) → l ≤ n → h < x → x ≤ b → target l ≢ x

-- the label of the start of an open loop
pub record IsStart (done : List Draft) (target : ℕ → ℕ) (s : Level) : Type 0 where
  pub block : target s.label ≡ s.block
  pub known : s.block ≤ length done
  pub front : (p l : ℕ) → p < s.block → s.label < l → named l done p ≡ false
  pub between : (x l : ℕ) → l ≤ s.label → s.block < x → target l ≢ x

-- each jump is to a label without a block, to a later block, or back
pub record Backs (done : List Draft) (target : ℕ → ℕ) (ends starts : List Level) : Type 0 where
  pub zeros : (l : ℕ) → IsIn l (labels_of ends) → target l ≡ 0
  pub open_starts : AllByRecursion (IsStart done target) starts
  pub jumps : (b l : ℕ) → named l done b ≡ true → (target l ≡ 0) ⊎ (b < target l) ⊎ IsBack done target l (target l) b

-- ---- steps

start_push : (done : List Draft) (d : Draft) (target : ℕ → ℕ) (ss : List Level) → AllByRecursion (IsStart done target) ss → AllByRecursion (IsStart (done ++ d ∷ []) target) ss
start_push done d target [] all = tt
start_push done d target (s ∷ ss) all = (
  record {
    block = all.0.block;
    known = omega (arith, all.0.known, pushed done d);
    front = λ p l lt n. named_left l done (d ∷ []) p (omega (arith, lt, all.0.known)) ∙ all.0.front p l lt n;
    between = all.0.between;
  },
  start_push done d target ss all.1,
)

-- a draft more
push : (done : List Draft) (d : Draft) (target : ℕ → ℕ) (ends starts : List Level) → ((l : ℕ) → is_among (targets_of d.last) l ≡ true → (target l ≡ 0) ⊎ (length done < target l) ⊎ ((target l ≤ length done) × IsBack done target l (target l) (length done))) → Backs done target ends starts → Backs (done ++ d ∷ []) target ends starts
push done d target ends starts new b = record {
  zeros = b.zeros;
  open_starts = start_push done d target starts b.open_starts;
  jumps = λ k l e. ⊎_elim (λ h. old k l h (named_within l done k h) (b.jumps k l h)) (λ h. fresh k l h.0 (new l h.1)) (named_push l done d k e);
}
  where
    longer : (h k l : ℕ) → h ≤ length done → IsBack done target l h k → IsBack (done ++ d ∷ []) target l h k
    longer h k l le back = record { front = λ p i lt n. named_left i done (d ∷ []) p (omega (arith, lt, le)) ∙ back.front p i lt n; between = back.between }

    old : (k l : ℕ) → named l done k ≡ true → k < length done → (target l ≡ 0) ⊎ (k < target l) ⊎ IsBack done target l (target l) k → (target l ≡ 0) ⊎ (k < target l) ⊎ IsBack (done ++ d ∷ []) target l (target l) k
    old k l e lt (inl z) = inl z
    old k l e lt (inr g) = inr (at (cases_lt k (target l)) g)
      where
        at : (k < target l) ⊎ (target l ≤ k) → (k < target l) ⊎ IsBack done target l (target l) k → (k < target l) ⊎ IsBack (done ++ d ∷ []) target l (target l) k
        at (inl h) g = inl h
        at (inr h) g = ⊎_elim (λ q. inl q) (λ q. inr (longer (target l) k l (omega (arith, h, lt)) q)) g

    fresh : (k l : ℕ) → k ≡ length done → (target l ≡ 0) ⊎ (length done < target l) ⊎ ((target l ≤ length done) × IsBack done target l (target l) (length done)) → (target l ≡ 0) ⊎ (k < target l) ⊎ IsBack (done ++ d ∷ []) target l (target l) k
    fresh k l e (inl z) = inl z
    fresh k l e (inr g) = inr (⊎_elim (λ q. inl (omega (arith, q, e))) (λ q. inr (subst (IsBack (done ++ d ∷ []) target l (target l)) (sym e) (longer (target l) (length done) l q.0 q.1))) g)

start_set : (done : List Draft) (target more : ℕ → ℕ) (at k : ℕ) (ss : List Level) → ((l : ℕ) → l ≢ at → more l ≡ target l) → EachBelow at (labels_of ss) → AllByRecursion (IsStart done target) ss → AllByRecursion (IsStart done more) ss
start_set done target more at k [] other low all = tt
start_set done target more at k (s ∷ ss) other low all = (
  record {
    block = other s.label (λ e. absurd (omega (arith, e, low.0))) ∙ all.0.block;
    known = all.0.known;
    front = all.0.front;
    between = λ x l le lt e. all.0.between x l le lt (sym (other l (λ q. absurd (omega (arith, q, le, low.0)))) ∙ e);
  },
  start_set done target more at k ss other low.1 all.1,
)

-- a label behind the open ones has its block, which is new
settle : (done : List Draft) (target more : ℕ → ℕ) (at k : ℕ) (ends starts : List Level) → more at ≡ k → ((l : ℕ) → l ≢ at → more l ≡ target l) → length done ≤ k → EachBelow at (labels_of ends) → EachBelow at (labels_of starts) → Backs done target ends starts → Backs done more ends starts
settle done target more at k ends starts here other le low_ends low_starts b = record {
  zeros = λ l i. let lt = below_in at (labels_of ends) l low_ends i in other l (λ e. absurd (omega (arith, e, lt))) ∙ b.zeros l i;
  open_starts = start_set done target more at k starts other low_starts b.open_starts;
  jumps = λ j l e. two j l (named_within l done j e) (eq_or l at) (b.jumps j l e);
}
  where
    back : (j l : ℕ) → j < length done → IsBack done target l (target l) j → IsBack done more l (target l) j
    back j l lt q = record {
      front = q.front;
      between = λ x i il hx xj e. ⊎_elim (λ (same : i ≡ at). absurd (omega (arith, sym (ap more same ∙ here) ∙ e, le, lt, xj))) (λ (ne : i ≢ at). absurd (q.between x i il hx xj (sym (other i ne) ∙ e))) (eq_or i at);
    }

    two : (j l : ℕ) → j < length done → (l ≡ at) ⊎ (l ≢ at) → (target l ≡ 0) ⊎ (j < target l) ⊎ IsBack done target l (target l) j → (more l ≡ 0) ⊎ (j < more l) ⊎ IsBack done more l (more l) j
    two j l lt (inl same) q = let e : more l ≡ k = ap more same ∙ here in inr (inl (omega (arith, e, lt, le)))
    two j l lt (inr ne) q =
        let e = other l ne in
        ⊎_elim (λ z. inl (e ∙ z)) (λ g. inr (⊎_elim (λ h. inl (omega (arith, h, e))) (λ h. inr (subst (λ (t : ℕ). IsBack done more l t j) (sym e) (back j l lt h))) g)) q

-- another function of the same labels
same_start : (done : List Draft) (target more : ℕ → ℕ) (ss : List Level) → ((l : ℕ) → more l ≡ target l) → AllByRecursion (IsStart done target) ss → AllByRecursion (IsStart done more) ss
same_start done target more [] same all = tt
same_start done target more (s ∷ ss) same all =
    (record { block = same s.label ∙ all.0.block; known = all.0.known; front = all.0.front; between = λ x l le lt e. all.0.between x l le lt (sym (same l) ∙ e) }, same_start done target more ss same all.1)

same_backs : (done : List Draft) (target more : ℕ → ℕ) (ends starts : List Level) → ((l : ℕ) → more l ≡ target l) → Backs done target ends starts → Backs done more ends starts
same_backs done target more ends starts same b = record {
  zeros = λ l i. same l ∙ b.zeros l i;
  open_starts = same_start done target more starts same b.open_starts;
  jumps = λ k l e. ⊎_elim (λ z. inl (same l ∙ z)) (λ g. inr (⊎_elim (λ h. inl (let q = same l in omega (arith, h, q))) (λ h. inr (subst (λ (t : ℕ). IsBack done more l t k) (sym (same l)) (record { front = h.front; between = λ x i il hx xk q. h.between x i il hx xk (sym (same i) ∙ q) }))) g)) (b.jumps k l e);
}

start_way : (done : List Draft) (target : ℕ → ℕ) (ss : List Level) (k : ℕ) (way : CellState) → AllByRecursion (IsStart done target) ss → AllByRecursion (IsStart done target) (add_way ss k way)
start_way done target [] k way all = tt
start_way done target (s ∷ ss) zero way all = (record { block = all.0.block; known = all.0.known; front = all.0.front; between = all.0.between }, all.1)
start_way done target (s ∷ ss) (suc k) way all = (all.0, start_way done target ss k way all.1)

start_at : (done : List Draft) (target : ℕ → ℕ) (ss : List Level) (k b : ℕ) → k < length ss → length done ≤ b → AllByRecursion (IsStart done target) ss → (target (label_at ss k) ≤ b) × IsBack done target (label_at ss k) (target (label_at ss k)) b
start_at done target [] k b lt le all = absurd (omega (arith, lt))
start_at done target (s ∷ ss) zero b lt le all =
    let e = all.0.block in
    (omega (arith, e, all.0.known, le), subst (λ (t : ℕ). IsBack done target s.label t b) (sym e) (record { front = all.0.front; between = λ x l il hx xb. all.0.between x l il hx }))
start_at done target (s ∷ ss) (suc k) b lt le all = start_at done target ss k b (omega (arith, lt)) le all.1

-- ---- the work

abbrev pub BacksOf : Work → Type 0
BacksOf w = Backs w.done (λ l. get_or w.targets l 0) w.ends w.starts

jump_one : (done : List Draft) (target : ℕ → ℕ) (label : ℕ) → (target label ≡ 0) ⊎ (length done < target label) ⊎ ((target label ≤ length done) × IsBack done target label (target label) (length done)) → (l : ℕ) → is_among (targets_of (Jump label)) l ≡ true → (target l ≡ 0) ⊎ (length done < target l) ⊎ ((target l ≤ length done) × IsBack done target l (target l) (length done))
jump_one done target label h l e = subst (λ (i : ℕ). (target i ≡ 0) ⊎ (length done < target i) ⊎ ((target i ≤ length done) × IsBack done target i (target i) (length done))) (sym (one_target_eq label l e)) h

fall_backs : (label : ℕ) (v : Work) (now : Option Open) → get_or v.targets label 0 ≡ 0 → BacksOf v → BacksOf (when_open now v (λ o. close v o (Jump label)))
fall_backs label v None unset b = b
fall_backs label v (Some o) unset b = push v.done (closed o (Jump label)) (λ l. get_or v.targets l 0) v.ends v.starts (jump_one v.done (λ l. get_or v.targets l 0) label (inl unset)) b

leave_backs : (k : ℕ) (v : Work) (now : Option Open) → k < length v.ends → BacksOf v → BacksOf (when_open now v (leave_work k v))
leave_backs k v None lt b = b
leave_backs k v (Some o) lt b =
    let target : ℕ → ℕ = λ l. get_or v.targets l 0 in
    let p = push v.done (closed o (Jump (label_at v.ends k))) target v.ends v.starts (jump_one v.done target (label_at v.ends k) (inl (b.zeros (label_at v.ends k) (label_in v.ends k lt)))) b in
    record { zeros = λ l i. p.zeros l (subst (IsIn l) (add_labels v.ends k (way_of v o)) i); open_starts = p.open_starts; jumps = p.jumps }

again_backs : (k : ℕ) (v : Work) (now : Option Open) → k < length v.starts → BacksOf v → BacksOf (when_open now v (again_work k v))
again_backs k v None lt b = b
again_backs k v (Some o) lt b =
    let target : ℕ → ℕ = λ l. get_or v.targets l 0 in
    let d = closed o (Jump (label_at v.starts k)) in
    let p = push v.done d target v.ends v.starts (jump_one v.done target (label_at v.starts k) (inr (inr (start_at v.done target v.starts k (length v.done) lt (omega arith) b.open_starts)))) b in
    record { zeros = p.zeros; open_starts = start_way (v.done ++ d ∷ []) target v.starts k (way_of v o) p.open_starts; jumps = p.jumps }

join_backs : (kinds : List CellKind) (label : ℕ) (ways : List CellState) (x : Work) → label < length x.targets → EachBelow label (labels_of x.ends) → EachBelow label (labels_of x.starts) → BacksOf x → BacksOf (join_work kinds label ways x)
join_backs kinds label [] x lt ends starts b = b
join_backs kinds label (way ∷ ways) x lt ends starts b =
    settle x.done (λ l. get_or x.targets l 0) (λ l. get_or (slice_set x.targets label (length x.done)) l 0) label (length x.done) x.ends x.starts (get_or-set_same x.targets label (length x.done) 0 lt) (λ l ne. get_or-set_other x.targets label l (length x.done) 0 ne) (omega arith) ends starts b

close_end_backs : (kinds : List CellKind) (n : ℕ) (ls : List Level) (v : Work) → ((l : Level) (ks : List Level) → ls ≡ l ∷ ks → (n ≤ l.label) × (l.label < length v.targets) × EachBelow n (labels_of ks)) → EachBelow n (labels_of v.starts) → v.ends ≡ ls → BacksOf v → BacksOf (close_end kinds ls v)
close_end_backs kinds n [] v low starts is b = b
close_end_backs kinds n (l ∷ ls) v low starts is b =
    let h = low l ls refl in
    join_backs kinds l.label l.ways (record v { ends = ls }) h.1 (below_more n l.label (labels_of ls) h.0 h.2) (below_more n l.label (labels_of v.starts) h.0 starts)
    (record { zeros = λ i j. b.zeros i (subst (λ (k : List Level). IsIn i (labels_of k)) (sym is) (inr j)); open_starts = b.open_starts; jumps = b.jumps })

open_end_backs : (w : Work) → BacksOf w → BacksOf (open_end w)
open_end_backs w b =
    let target : ℕ → ℕ = λ l. get_or w.targets l 0 in
    let s = same_backs w.done target (λ l. get_or (w.targets ++ 0 ∷ []) l 0) w.ends w.starts (λ l. get_more w.targets (0 ∷ []) l zero_one) b in
    record {
      zeros = λ l i. ⊎_elim (λ e. ap (λ (j : ℕ). get_or (w.targets ++ 0 ∷ []) j 0) e ∙ get_more w.targets (0 ∷ []) (length w.targets) zero_one ∙ get_or_past w.targets (length w.targets) 0 (omega arith)) (λ j. s.zeros l j) i;
      open_starts = s.open_starts;
      jumps = s.jumps;
    }

open_loop_backs : (kinds : List CellKind) (P : ℕ → Type 0) (needs : ℕ → Bool) (w : Work) (o : Open) → w.now ≡ Some o → Table P w → BacksOf w → BacksOf (open_loop kinds needs w o)
open_loop_backs kinds P needs w o is t b =
    let p = t.pending in
    let n = length w.targets in
    let k = length w.done + 1 in
    let d = closed o (Jump n) in
    let target : ℕ → ℕ = λ l. get_or w.targets l 0 in
    let more : ℕ → ℕ = λ l. get_or (w.targets ++ k ∷ 0 ∷ []) l 0 in
    let here : more n ≡ k = get_or_at w.targets k (0 ∷ []) 0 n refl in
    let other : (l : ℕ) → l ≢ n → more l ≡ target l = λ l ne. get_front w.targets (0 ∷ []) k l ne zero_one in
    let s = settle w.done target more n k w.ends w.starts here other (omega arith) p.ends_below p.starts_below b in
    let q = push w.done d more w.ends w.starts (jump_one w.done more n (inr (inl (omega (arith, here))))) s in
    let one : length (w.done ++ d ∷ []) ≡ suc (length w.done) = pushed w.done d in
    let opened : blocks_opened w.now (length w.done) ≡ suc (length w.done) = ap (λ (x : Option Open). blocks_opened x (length w.done)) is in
    record {
      zeros = λ l i. ⊎_elim (λ e. ap more e ∙ second_zero w.targets k) (λ j. q.zeros l j) i;
      open_starts = (
        record {
          block = here;
          known = omega (arith, one);
          front = λ x l lt le. named_kept l w.done d x (one_target n l (λ e. absurd (omega (arith, e, le)))) ∙ p.fresh l x (omega (arith, le));
          between = λ x l le lt e. ⊎_elim (λ (same : l ≡ n). absurd (omega (arith, sym (ap more same ∙ here) ∙ e, lt))) (λ (ne : l ≢ n). ⊎_elim (λ z. absurd (omega (arith, sym (other l ne ∙ z) ∙ e, lt))) (λ g. absurd (omega (arith, sym (other l ne) ∙ e, g, opened, lt))) (t.settled.bound l)) (eq_or l n);
        },
        q.open_starts,
      );
      jumps = q.jumps;
    }

first_backs : (P : ℕ → Type 0) (coder : Coder) (holds : Bool) (test : ℕ) (w : Work) (o : Open) → Table P w → BacksOf w → BacksOf (open_first coder holds test w o)
first_backs P coder holds test w o t b =
    let p = t.pending in
    let n = length w.targets in
    let k = length w.done + 1 in
    let c = coder (test ∷ []) o.values w.next in
    let v = first_operand c.operands in
    let d : Draft = record { phis = o.phis; body = o.body ++ c.code; last = branch_last holds v n } in
    let target : ℕ → ℕ = λ l. get_or w.targets l 0 in
    let more : ℕ → ℕ = λ l. get_or (w.targets ++ k ∷ 0 ∷ 0 ∷ []) l 0 in
    let here : more n ≡ k = get_or_at w.targets k (0 ∷ 0 ∷ []) 0 n refl in
    let other : (l : ℕ) → l ≢ n → more l ≡ target l = λ l ne. get_front w.targets (0 ∷ 0 ∷ []) k l ne two_zero in
    let past : more (n + 1) ≡ 0 = other (n + 1) (λ e. absurd (omega (arith, e))) ∙ get_or_past w.targets (n + 1) 0 (omega arith) in
    push w.done d more w.ends w.starts (λ l i. ⊎_elim (λ e. let q : more l ≡ k = ap more e ∙ here in inr (inl (omega (arith, q)))) (λ e. inl (ap more e ∙ past)) (branch_targets holds v n l i))
    (settle w.done target more n k w.ends w.starts here other (omega arith) p.ends_below p.starts_below b)

second_backs : (n : ℕ) (values : List Operand) (f : Work) → n + 1 < length f.targets → EachBelow n (labels_of f.ends) → EachBelow n (labels_of f.starts) → BacksOf f → BacksOf (open_second (n + 1) values f)
second_backs n values f lt ends starts b =
    settle f.done (λ l. get_or f.targets l 0) (λ l. get_or (slice_set f.targets (n + 1) (length f.done)) l 0) (n + 1) (length f.done) f.ends f.starts (get_or-set_same f.targets (n + 1) (length f.done) 0 lt) (λ l ne. get_or-set_other f.targets (n + 1) l (length f.done) 0 ne) (omega arith) (below_more n (n + 1) (labels_of f.ends) (omega arith) ends) (below_more n (n + 1) (labels_of f.starts) (omega arith) starts) b

same_below : (n : ℕ) (ls ks : List Level) → SameLevels ls ks → EachBelow n (labels_of ls) → EachBelow n (labels_of ks)
same_below n ls ks s low = subst (EachBelow n) (sym (same_labels ls ks s)) low

ends_low : (n m : ℕ) (s : Level) (ws vs : List Level) → SameLevels (s ∷ ws) vs → n ≤ s.label → s.label < m → EachBelow n (labels_of ws) → (l : Level) (ks : List Level) → vs ≡ l ∷ ks → (n ≤ l.label) × (l.label < m) × EachBelow n (labels_of ks)
ends_low n m s ws vs same le lt low l ks e =
    let q = subst (SameLevels (s ∷ ws)) e same in
    (omega (arith, q.0, le), omega (arith, q.0, lt), same_below n ws ks q.3 low)

bodies_backs : (kinds : List CellKind) (label : ℕ) (ways : List CellState) (u : Work) → label < length (fall_work label u).targets → EachBelow label (labels_of (fall_work label u).ends) → EachBelow label (labels_of (fall_work label u).starts) → BacksOf u → BacksOf (fall_work label u) → BacksOf (join_bodies kinds label ways u)
bodies_backs kinds label [] u lt ends starts b fell = b
bodies_backs kinds label (way ∷ ways) u lt ends starts b fell = join_backs kinds label ((way ∷ ways) ++ fall_ways u u.now) (fall_work label u) lt ends starts fell

loop_closes : (kinds : List CellKind) (n : ℕ) (needs : ℕ → Bool) (late next : ℕ) (start : Level) (ws es ss : List Level) (v : Work) → ((l : Level) (ks : List Level) → es ≡ l ∷ ks → (n ≤ l.label) × (l.label < length v.targets) × EachBelow n (labels_of ks)) → SameLevels (start ∷ ws) ss → EachBelow n (labels_of ws) → v.ends ≡ es → v.starts ≡ ss → BacksOf v → BacksOf (close_end kinds es (close_start kinds needs late next ss v))
loop_closes kinds n needs late next start ws es [] v low same starts is_e is_s b = absurd same
loop_closes kinds n needs late next start ws es (l ∷ ls) v low same starts is_e is_s b =
    let x = close_start kinds needs late next (l ∷ ls) v in
    let all : AllByRecursion (IsStart v.done (λ i. get_or v.targets i 0)) (l ∷ ls) = subst (AllByRecursion (IsStart v.done (λ i. get_or v.targets i 0))) is_s b.open_starts in
    close_end_backs kinds n es x low (same_below n ws ls same.3 starts) is_e (record { zeros = b.zeros; open_starts = all.1; jumps = b.jumps })

either_backs : (x z : Work) (r : Bool) → BacksOf x → BacksOf z → BacksOf (if r then x else z)
either_backs x z true f g = f
either_backs x z false f g = g

when_backs : (n : Option Open) (w : Work) (f : Open → Work) → w.now ≡ n → BacksOf w → ((o : Open) → w.now ≡ Some o → BacksOf (f o)) → BacksOf (when_open n w f)
when_backs None w f e b next = b
when_backs (Some o) w f e b next = next o e

-- ---- statements

module _ (carry : WaysCarry) (keeps : SameWhereNotDiffer) (core : Core) (coder : Coder) (isc : IsCoder core coder) where
  -- a choice, from what is known of the bodies
  choice_backs : (P : ℕ → Type 0) (test : ℕ) (holds : Bool) (w v u : Work) (o : Open) → Table P w → IsValid core.cells v → IsValid core.cells u → Moves (open_first coder holds test w o) v → Moves (open_second (length w.targets + 1) o.values (fall_work (length w.targets + 2) v)) u
      → BacksOf v → (BacksOf (open_second (length w.targets + 1) o.values (fall_work (length w.targets + 2) v)) → BacksOf u) → BacksOf (join_bodies core.cells (length w.targets + 2) (fall_ways v v.now) u)
  choice_backs P test holds w v u o t ok_v ok_u mv mu bv second =
      let n = length w.targets in
      let k = length w.done + 1 in
      let x = open_first coder holds test w o in
      let f = fall_work (n + 2) v in
      let g = open_second (n + 1) o.values f in
      let z = fall_work (n + 2) u in
      let fell = fallen core.cells (n + 2) v v.now refl ok_v in
      let last = fallen core.cells (n + 2) u u.now refl ok_u in
      let long : length x.targets ≡ suc (suc (suc n)) = long_three w.targets k 0 0 in
      let within : n + 2 < length f.targets = omega (arith, long, mv.targets.long, ap length fell.targets) in
      let set : length g.targets ≡ length f.targets = length-set f.targets (n + 1) (length f.done) in
      let zero_v : get_or v.targets (n + 2) 0 ≡ 0 = mv.targets.same (n + 2) (omega (arith, long)) ∙ third_zero w.targets k in
      let zero_f : get_or f.targets (n + 2) 0 ≡ 0 = ap (λ (y : List ℕ). get_or y (n + 2) 0) fell.targets ∙ zero_v in
      let zero_u : get_or u.targets (n + 2) 0 ≡ 0 = mu.targets.same (n + 2) (omega (arith, within, set)) ∙ get_or-set_other f.targets (n + 1) (n + 2) (length f.done) 0 (λ h. absurd (omega (arith, h))) ∙ zero_f in
      let ends_f = same_below n v.ends f.ends fell.moves.ends (same_below n w.ends v.ends mv.ends t.pending.ends_below) in
      let starts_f = same_below n v.starts f.starts fell.moves.starts (same_below n w.starts v.starts mv.starts t.pending.starts_below) in
      let ends_z = same_below n u.ends z.ends last.moves.ends (same_below n f.ends u.ends mu.ends ends_f) in
      let starts_z = same_below n u.starts z.starts last.moves.starts (same_below n f.starts u.starts mu.starts starts_f) in
      let bf = fall_backs (n + 2) v v.now zero_v bv in
      let bg = second_backs n o.values f (omega (arith, within)) ends_f starts_f bf in
      let bu = second bg in
      let bz = fall_backs (n + 2) u u.now zero_u bu in
      bodies_backs core.cells (n + 2) (fall_ways v v.now) u (omega (arith, within, set, mu.targets.long, ap length last.targets)) (below_more n (n + 2) (labels_of z.ends) (omega arith) ends_z) (below_more n (n + 2) (labels_of z.starts) (omega arith) starts_z) bu bz

  pub backs_stay : (s : Stmt) (w : Work) (P : ℕ → Type 0) → IsFit core s → HasLevels s (length w.ends) (length w.starts) → IsValid core.cells w → Table P w → BacksOf w → BacksOf (lower_of core coder s w)
  backs_stay Skip w P fit l ok t b = b
  backs_stay (Seq x y) w P fit l ok t b =
      let u = lower_of core coder x w in
      let ex = emits carry keeps core coder isc x w fit.0 l.0 ok in
      let ly = levels_same y w u ex.moves.ends ex.moves.starts l.1 in
      let jx = jumps carry keeps core coder isc x w P fit.0 l.0 ok t in
      backs_stay y u P fit.1 ly ex.valid jx.table (backs_stay x w P fit.0 l.0 ok t b)
  backs_stay (Assign pairs) w P fit l ok t b = when_backs w.now w (assign_work coder pairs w) refl b (λ o is. b)
  backs_stay (Gate leaf) w P fit l ok t b = when_backs w.now w (gate_work coder leaf w) refl b (λ o is. b)
  backs_stay (Reset qubit) w P fit l ok t b = when_backs w.now w (reset_work qubit w) refl b (λ o is. b)
  backs_stay (Measure qubit None) w P fit l ok t b = when_backs w.now w (measure_work qubit None w) refl b (λ o is. b)
  backs_stay (Measure qubit (Some c)) w P fit l ok t b = when_backs w.now w (measure_work qubit (Some c) w) refl b (λ o is. b)
  backs_stay (If test x y) w P fit l ok t b =
      when_backs w.now w (λ o. if reaches y Falls then two_bodies core.cells (length w.targets) o.values (lower_of core coder x (open_first coder true test w o)) (lower_of core coder y) else two_bodies core.cells (length w.targets) o.values (lower_of core coder y (open_first coder false test w o)) (lower_of core coder x)) refl b (λ o is.
      let n = length w.targets in
      let x1 = open_first coder true test w o in
      let x2 = open_first coder false test w o in
      let v1 = lower_of core coder x x1 in
      let v2 = lower_of core coder y x2 in
      let g1 = open_second (n + 1) o.values (fall_work (n + 2) v1) in
      let g2 = open_second (n + 1) o.values (fall_work (n + 2) v2) in
      let u1 = lower_of core coder y g1 in
      let u2 = lower_of core coder x g2 in
      let P1 : ℕ → Type 0 = Also (Also P (n + 1)) (n + 2) in
      let P2 : ℕ → Type 0 = Also P (n + 2) in
      let ok1 = open_first_valid core.cells coder true test w o is ok in
      let ok2 = open_first_valid core.cells coder false test w o is ok in
      let e1 = emits carry keeps core coder isc x x1 fit.1 l.0 ok1 in
      let e2 = emits carry keeps core coder isc y x2 fit.2 l.1 ok2 in
      let k1 = second_valid carry keeps core coder isc (λ k. []) test x true w o is ok e1 in
      let k2 = second_valid carry keeps core coder isc (λ k. []) test y false w o is ok e2 in
      let l1 = second_levels carry keeps core coder isc (λ k. []) test x y true w o e1 l.1 in
      let l2 = second_levels carry keeps core coder isc (λ k. []) test y x false w o e2 l.0 in
      let f1 = emits carry keeps core coder isc y g1 fit.2 l1 k1 in
      let f2 = emits carry keeps core coder isc x g2 fit.1 l2 k2 in
      let t1 = first_table P coder true test w o t in
      let t2 = first_table P coder false test w o t in
      let j1 = jumps carry keeps core coder isc x x1 P1 fit.1 l.0 ok1 t1 in
      let j2 = jumps carry keeps core coder isc y x2 P1 fit.2 l.1 ok2 t2 in
      let i1 : Table P2 g1 → Jumped P2 g1 u1 = λ q. jumps carry keeps core coder isc y g1 P2 fit.2 l1 k1 q in
      let i2 : Table P2 g2 → Jumped P2 g2 u2 = λ q. jumps carry keeps core coder isc x g2 P2 fit.1 l2 k2 q in
      let s1 = jumped_table P core.cells coder true test w v1 u1 o t e1.moves j1 f1.moves i1 in
      let s2 = jumped_table P core.cells coder false test w v2 u2 o t e2.moves j2 f2.moves i2 in
      either_backs (two_bodies core.cells n o.values v1 (lower_of core coder y)) (two_bodies core.cells n o.values v2 (lower_of core coder x)) (reaches y Falls)
      (choice_backs P test true w v1 u1 o t e1.valid f1.valid e1.moves f1.moves (backs_stay x x1 P1 fit.1 l.0 ok1 t1 (first_backs P coder true test w o t b)) (λ q. backs_stay y g1 P2 fit.2 l1 k1 s1 q))
      (choice_backs P test false w v2 u2 o t e2.valid f2.valid e2.moves f2.moves (backs_stay y x2 P1 fit.2 l.1 ok2 t2 (first_backs P coder false test w o t b)) (λ q. backs_stay x g2 P2 fit.1 l2 k2 s2 q)))
  backs_stay (Block x) w P fit l ok t b = when_backs w.now w (λ o. let v = leave_zero (lower_of core coder x (open_end w)) in close_end core.cells v.ends v) refl b (λ o is.
      let n = length w.targets in
      let w1 = open_end w in
      let u = lower_of core coder x w1 in
      let v = leave_zero u in
      let ok1 = open_end_valid core.cells w ok in
      let em = emits carry keeps core coder isc x w1 fit l ok1 in
      let bm = (body_emits carry keeps core coder isc x w1 u (omega arith) em).moves in
      let bu = backs_stay x w1 P fit l ok1 (open_end_table P w t) (open_end_backs w b) in
      let some : 0 < length u.ends = omega (arith, same_length w1.ends u.ends em.moves.ends) in
      let bv = leave_backs 0 u u.now some bu in
      let end : Level = record { label = n; block = 0; ways = [] } in
      let long = long_one w.targets in
      close_end_backs core.cells n v.ends v (ends_low n (length v.targets) end w.ends v.ends bm.ends (omega arith) (omega (arith, long, bm.targets.long)) t.pending.ends_below) (same_below n w.starts v.starts bm.starts t.pending.starts_below) refl bv)
  backs_stay (Loop x) w P fit l ok t b =
      when_backs w.now w (λ o.
      let needs = start_needs core.exprs x o.values in
      let v = leave_zero (lower_of core coder x (open_loop core.cells needs w o)) in
      close_end core.cells v.ends (close_start core.cells needs (length w.lates) w.next v.starts v)) refl b (λ o is.
      let n = length w.targets in
      let needs = start_needs core.exprs x o.values in
      let w1 = open_loop core.cells needs w o in
      let u = lower_of core coder x w1 in
      let v = leave_zero u in
      let ok1 = open_loop_valid core.cells needs w o is ok in
      let em = emits carry keeps core coder isc x w1 fit l ok1 in
      let bm = (body_emits carry keeps core coder isc x w1 u (omega arith) em).moves in
      let bu = backs_stay x w1 P fit l ok1 (open_loop_table core.cells P needs w o is t) (open_loop_backs core.cells P needs w o is t b) in
      let some : 0 < length u.ends = omega (arith, same_length w1.ends u.ends em.moves.ends) in
      let bv = leave_backs 0 u u.now some bu in
      let end : Level = record { label = n + 1; block = 0; ways = [] } in
      let start : Level = record { label = n; block = length w.done + 1; ways = way_of w o ∷ [] } in
      let long = long_two w.targets (length w.done + 1) 0 in
      loop_closes core.cells n needs (length w.lates) w.next start w.starts v.ends v.starts v (ends_low n (length v.targets) end w.ends v.ends bm.ends (omega arith) (omega (arith, long, bm.targets.long)) t.pending.ends_below) bm.starts t.pending.starts_below refl refl bv)
  backs_stay (Leave k) w P fit l ok t b = leave_backs k w w.now l b
  backs_stay (Again k) w P fit l ok t b = again_backs k w w.now l b

-- ---- the program

pub whole_backs : WaysCarry → SameWhereNotDiffer → (core : Core) (coder : Coder) → IsLowerable core coder → BacksOf (whole_work core coder)
whole_backs carry keeps core coder l =
    let w = first_work (length core.cells) in
    let v = lower_of core coder (program_of core) w in
    let start : BacksOf w = record { zeros = λ i j. absurd j; open_starts = tt; jumps = λ k i e. absurd (cc e) } in
    at v v.now refl (backs_stay carry keeps core coder l.coder_fits (program_of core) w NoLabel (program_fits core l.fits l.held) l.fits.well_formed.levels (first_valid core.cells) (start_table (length core.cells)) start)
  where
    at : (v : Work) (now : Option Open) → v.now ≡ now → BacksOf v → BacksOf (when_open now v (end_work core.outputs v))
    at v None is b = b
    at v (Some o) is b = push v.done (record { phis = o.phis; body = o.body ++ map (record_call o.values) core.outputs; last = Return (pos 0) }) (λ i. get_or v.targets i 0) v.ends v.starts (λ i e. absurd (cc e)) b
