-- Where some way along the statements leads, a block is open, and where some way leaves a block or loop, its end has a way.
use Rattle.std.proofs.Common.{◌≡◌, ◌≢◌, ℕ, zero, suc, ◌+◌, ◌<◌, ◌⊎◌, inl, inr, ⊎_elim, if◌then◌else◌, Bool, true, false, ◌&&◌, ◌||◌, List, [], ◌∷◌, ◌++◌, length, Option, Some, None, refl, sym, ap, ◌∙◌, subst, arith, eqb-true}
use Rattle.core_ir.specs.declared.expression.CellKind.{CellKind}
use Rattle.core_ir.specs.Core.{Core}
use Rattle.core_ir.specs.Tree.{Stmt, Skip, Seq, Assign, Gate, Reset, Measure, If, Block, Loop, Leave, Again}
use Rattle.core_ir.specs.Ways.{Exit, Falls, Leaves, reaches}
use Rattle.core_ir.specs.WellFormed.{HasLevels}
use Rattle.phi_place.specs.State.{CellState}
use Rattle.phi_place.specs.Phis.{WaysCarry, SameWhereNotDiffer}
use Rattle.block_graph.specs.Fitting.{IsFit}
use Rattle.block_graph.specs.Work.{Level, Open, Work}
use Rattle.block_graph.specs.Lowering.{Coder, IsCoder, way_of, add_way, when_open, assign_work, gate_work, reset_work, measure_work, leave_work, again_work, leave_zero, join_work, open_end, close_end, start_needs, open_loop, close_start, open_first, fall_work, fall_ways, open_second, join_bodies, two_bodies, lower_of}
use Rattle.block_graph.proofs.Flow.{or_cases, and_cases, fall_ends, join_ends}
use Rattle.block_graph.proofs.Moving.{IsValid, SameLevels, same_levels, same_length, add_same}
use Rattle.block_graph.proofs.Whole.{open_end_valid, open_loop_valid, open_first_valid, levels_same, emits}
use Rattle.block_graph.proofs.Bounding.{second_valid, second_levels}

abbrev pub IsOpen : Option Open → Type 0
IsOpen None = ⊥
IsOpen (Some o) = Unit {0}

-- the k-th level has a way
abbrev pub HasWay : List Level → ℕ → Type 0
HasWay [] k = ⊥
HasWay (l ∷ ls) zero = l.ways ≢ []
HasWay (l ∷ ls) (suc k) = HasWay ls k

not_nil : (ways more : List CellState) → ways ≢ [] → ways ++ more ≢ []
not_nil [] more ne e = ne refl
not_nil (w ∷ ways) more ne e = absurd (cc e)

last_way : (ways : List CellState) (way : CellState) → ways ++ way ∷ [] ≢ []
last_way [] way e = absurd (cc e)
last_way (w ∷ ways) way e = absurd (cc e)

has_more : (ls ks : List Level) (k : ℕ) → SameLevels ls ks → HasWay ls k → HasWay ks k
has_more [] [] k s h = absurd h
has_more [] (j ∷ js) k s h = absurd s
has_more (l ∷ ls) [] k s h = absurd s
has_more (l ∷ ls) (j ∷ js) zero s h = λ e. not_nil l.ways s.2.0 h (sym s.2.1 ∙ e)
has_more (l ∷ ls) (j ∷ js) (suc k) s h = has_more ls js k s.3 h

has_added : (ls : List Level) (k : ℕ) (way : CellState) → k < length ls → HasWay (add_way ls k way) k
has_added [] k way lt = absurd (omega (arith, lt))
has_added (l ∷ ls) zero way lt = last_way l.ways way
has_added (l ∷ ls) (suc k) way lt = has_added ls k way (omega (arith, lt))

pub record Lives (s : Stmt) (w v : Work) : Type 0 where
  pub now : reaches s Falls ≡ true → IsOpen v.now
  pub ends : (k : ℕ) → k < length w.ends → reaches s (Leaves k) ≡ true → HasWay v.ends k

open_when : (s : Stmt) (n : Option Open) (w : Work) (f : Open → Work) → w.now ≡ n → IsOpen w.now → ((o : Open) → w.now ≡ Some o → Lives s w (f o)) → Lives s w (when_open n w f)
open_when s None w f e is next = absurd (subst IsOpen e is)
open_when s (Some o) w f e is next = next o e

either_lives : (s : Stmt) (w x z : Work) (r : Bool) → Lives s w x → Lives s w z → Lives s w (if r then x else z)
either_lives s w x z true f g = f
either_lives s w x z false f g = g

join_open : (kinds : List CellKind) (label : ℕ) (ways : List CellState) (x : Work) → ways ≢ [] → IsOpen (join_work kinds label ways x).now
join_open kinds label [] x ne = absurd (ne refl)
join_open kinds label (way ∷ ways) x ne = tt

-- the end of a block or loop
end_lives : (kinds : List CellKind) (ls : List Level) (v : Work) → HasWay ls 0 → IsOpen (close_end kinds ls v).now
end_lives kinds [] v h = absurd h
end_lives kinds (l ∷ ls) v h = join_open kinds l.label l.ways (record v { ends = ls }) h

end_ways : (kinds : List CellKind) (ls : List Level) (v : Work) (k : ℕ) → HasWay ls (suc k) → HasWay (close_end kinds ls v).ends k
end_ways kinds [] v k h = absurd h
end_ways kinds (l ∷ ls) v k h = subst (λ (x : List Level). HasWay x k) (sym (join_ends kinds l.label l.ways (record v { ends = ls }))) h

leave_has : (u : Work) (n : Option Open) → u.now ≡ n → 0 < length u.ends → IsOpen n ⊎ HasWay u.ends 0 → HasWay (when_open n u (leave_work 0 u)).ends 0
leave_has u None is lt h = ⊎_elim (λ q. absurd q) (λ q. q) h
leave_has u (Some o) is lt h = has_added u.ends 0 (way_of u o) lt

leave_same : (u : Work) (n : Option Open) → SameLevels u.ends (when_open n u (leave_work 0 u)).ends
leave_same u None = same_levels u.ends
leave_same u (Some o) = add_same u.ends 0 (way_of u o)

module _ (carry : WaysCarry) (keeps : SameWhereNotDiffer) (core : Core) (coder : Coder) (isc : IsCoder core coder) where
  -- what falls off the end of a body leaves it
  body_has : (a : Stmt) (w1 u : Work) → 0 < length w1.ends → SameLevels w1.ends u.ends → Lives a w1 u → (reaches a Falls || reaches a (Leaves 0)) ≡ true → HasWay (leave_zero u).ends 0
  body_has a w1 u lt same la e =
      let has : 0 < length u.ends = omega (arith, lt, same_length w1.ends u.ends same) in
      leave_has u u.now refl has (⊎_elim (λ h. inl (la.now h)) (λ h. inr (la.ends 0 lt h)) (or_cases (reaches a Falls) (reaches a (Leaves 0)) e))

  choice_lives : (test : ℕ) (a b s : Stmt) (holds : Bool) (w : Work) (o : Open) → Lives a (open_first coder holds test w o) (lower_of core coder a (open_first coder holds test w o))
      → (let g = open_second (length w.targets + 1) o.values (fall_work (length w.targets + 2) (lower_of core coder a (open_first coder holds test w o))) in Lives b g (lower_of core coder b g))
      → SameLevels w.ends (lower_of core coder a (open_first coder holds test w o)).ends
      → (let g = open_second (length w.targets + 1) o.values (fall_work (length w.targets + 2) (lower_of core coder a (open_first coder holds test w o))) in SameLevels g.ends (lower_of core coder b g).ends)
      → ((x : Exit) → reaches s x ≡ true → (reaches a x ≡ true) ⊎ (reaches b x ≡ true))
      → Lives s w (two_bodies core.cells (length w.targets) o.values (lower_of core coder a (open_first coder holds test w o)) (lower_of core coder b))
  choice_lives test a b s holds w o la lb sa sb cases = record {
    now = λ e. open_at v.now refl (cases Falls e);
    ends = λ k lt e. subst (λ (x : List Level). HasWay x k) (sym (all_ends (fall_ways v v.now))) (ways_at k lt (cases (Leaves k) e));
  }
    where
      n : ℕ
      n = length w.targets

      v : Work
      v = lower_of core coder a (open_first coder holds test w o)

      g : Work
      g = open_second (n + 1) o.values (fall_work (n + 2) v)

      u : Work
      u = lower_of core coder b g

      open_at : (now : Option Open) → v.now ≡ now → (reaches a Falls ≡ true) ⊎ (reaches b Falls ≡ true) → IsOpen (join_bodies core.cells (n + 2) (fall_ways v now) u).now
      open_at None none (inl e) = absurd (subst IsOpen none (la.now e))
      open_at None none (inr e) = lb.now e
      open_at (Some p) some h = tt

      all_ends : (ways : List CellState) → (join_bodies core.cells (n + 2) ways u).ends ≡ u.ends
      all_ends [] = refl
      all_ends (way ∷ ways) = join_ends core.cells (n + 2) ((way ∷ ways) ++ fall_ways u u.now) (fall_work (n + 2) u) ∙ fall_ends (n + 2) u u.now

      ways_at : (k : ℕ) → k < length w.ends → (reaches a (Leaves k) ≡ true) ⊎ (reaches b (Leaves k) ≡ true) → HasWay u.ends k
      ways_at k lt (inl e) = has_more g.ends u.ends k sb (subst (λ (x : List Level). HasWay x k) (sym (fall_ends (n + 2) v v.now)) (la.ends k lt e))
      ways_at k lt (inr e) = lb.ends k (omega (arith, lt, same_length w.ends v.ends sa, ap length (fall_ends (n + 2) v v.now))) e

  pub lives : (s : Stmt) (w : Work) → IsFit core s → HasLevels s (length w.ends) (length w.starts) → IsValid core.cells w → IsOpen w.now → Lives s w (lower_of core coder s w)
  lives Skip w fit l ok is = record { now = λ e. is; ends = λ k lt e. absurd (cc e) }
  lives (Seq a b) w fit l ok is =
      let u = lower_of core coder a w in
      let v = lower_of core coder b u in
      let ea = emits carry keeps core coder isc a w fit.0 l.0 ok in
      let lb = levels_same b w u ea.moves.ends ea.moves.starts l.1 in
      let eb = emits carry keeps core coder isc b u fit.1 lb ea.valid in
      let la = lives a w fit.0 l.0 ok is in
      let next : IsOpen u.now → Lives b u v = λ h. lives b u fit.1 lb ea.valid h in
      record {
        now = λ e. let c = and_cases (reaches a Falls) (reaches b Falls) e in (next (la.now c.0)).now c.1;
        ends = λ k lt e. ⊎_elim (λ h. has_more u.ends v.ends k eb.moves.ends (la.ends k lt h)) (λ h. let c = and_cases (reaches a Falls) (reaches b (Leaves k)) h in (next (la.now c.0)).ends k (omega (arith, lt, same_length w.ends u.ends ea.moves.ends)) c.1) (or_cases (reaches a (Leaves k)) (reaches a Falls && reaches b (Leaves k)) e);
      }
  lives (Assign pairs) w fit l ok is = open_when (Assign pairs) w.now w (assign_work coder pairs w) refl is (λ o e. record { now = λ h. tt; ends = λ k lt h. absurd (cc h) })
  lives (Gate leaf) w fit l ok is = open_when (Gate leaf) w.now w (gate_work coder leaf w) refl is (λ o e. record { now = λ h. tt; ends = λ k lt h. absurd (cc h) })
  lives (Reset qubit) w fit l ok is = open_when (Reset qubit) w.now w (reset_work qubit w) refl is (λ o e. record { now = λ h. tt; ends = λ k lt h. absurd (cc h) })
  lives (Measure qubit None) w fit l ok is = open_when (Measure qubit None) w.now w (measure_work qubit None w) refl is (λ o e. record { now = λ h. tt; ends = λ k lt h. absurd (cc h) })
  lives (Measure qubit (Some c)) w fit l ok is = open_when (Measure qubit (Some c)) w.now w (measure_work qubit (Some c) w) refl is (λ o e. record { now = λ h. tt; ends = λ k lt h. absurd (cc h) })
  lives (If test a b) w fit l ok is =
      open_when (If test a b) w.now w (λ o. if reaches b Falls then two_bodies core.cells (length w.targets) o.values (lower_of core coder a (open_first coder true test w o)) (lower_of core coder b) else two_bodies core.cells (length w.targets) o.values (lower_of core coder b (open_first coder false test w o)) (lower_of core coder a)) refl is (λ o e.
      let n = length w.targets in
      let x1 = open_first coder true test w o in
      let x2 = open_first coder false test w o in
      let g1 = open_second (n + 1) o.values (fall_work (n + 2) (lower_of core coder a x1)) in
      let g2 = open_second (n + 1) o.values (fall_work (n + 2) (lower_of core coder b x2)) in
      let ok1 = open_first_valid core.cells coder true test w o e ok in
      let ok2 = open_first_valid core.cells coder false test w o e ok in
      let e1 = emits carry keeps core coder isc a x1 fit.1 l.0 ok1 in
      let e2 = emits carry keeps core coder isc b x2 fit.2 l.1 ok2 in
      let k1 = second_valid carry keeps core coder isc (λ k. []) test a true w o e ok e1 in
      let k2 = second_valid carry keeps core coder isc (λ k. []) test b false w o e ok e2 in
      let l1 = second_levels carry keeps core coder isc (λ k. []) test a b true w o e1 l.1 in
      let l2 = second_levels carry keeps core coder isc (λ k. []) test b a false w o e2 l.0 in
      either_lives (If test a b) w (two_bodies core.cells n o.values (lower_of core coder a x1) (lower_of core coder b)) (two_bodies core.cells n o.values (lower_of core coder b x2) (lower_of core coder a)) (reaches b Falls)
      (choice_lives test a b (If test a b) true w o (lives a x1 fit.1 l.0 ok1 tt) (lives b g1 fit.2 l1 k1 tt) e1.moves.ends (emits carry keeps core coder isc b g1 fit.2 l1 k1).moves.ends (λ x h. or_cases (reaches a x) (reaches b x) h))
      (choice_lives test b a (If test a b) false w o (lives b x2 fit.2 l.1 ok2 tt) (lives a g2 fit.1 l2 k2 tt) e2.moves.ends (emits carry keeps core coder isc a g2 fit.1 l2 k2).moves.ends (λ x h. ⊎_elim (λ q. inr q) (λ q. inl q) (or_cases (reaches a x) (reaches b x) h))))
  lives (Block a) w fit l ok is = open_when (Block a) w.now w (λ o. let v = leave_zero (lower_of core coder a (open_end w)) in close_end core.cells v.ends v) refl is (λ o e.
      let w1 = open_end w in
      let u = lower_of core coder a w1 in
      let v = leave_zero u in
      let ok1 = open_end_valid core.cells w ok in
      let em = emits carry keeps core coder isc a w1 fit l ok1 in
      let la = lives a w1 fit l ok1 is in
      record {
        now = λ h. end_lives core.cells v.ends v (body_has a w1 u (omega arith) em.moves.ends la h);
        ends = λ k lt h. end_ways core.cells v.ends v k (has_more u.ends v.ends (suc k) (leave_same u u.now) (la.ends (suc k) (omega (arith, lt)) h));
      })
  lives (Loop a) w fit l ok is =
      open_when (Loop a) w.now w (λ o.
      let needs = start_needs core.exprs a o.values in
      let v = leave_zero (lower_of core coder a (open_loop core.cells needs w o)) in
      close_end core.cells v.ends (close_start core.cells needs (length w.lates) w.next v.starts v)) refl is (λ o e.
      let needs = start_needs core.exprs a o.values in
      let w1 = open_loop core.cells needs w o in
      let u = lower_of core coder a w1 in
      let v = leave_zero u in
      let y = close_start core.cells needs (length w.lates) w.next v.starts v in
      let ok1 = open_loop_valid core.cells needs w o e ok in
      let em = emits carry keeps core coder isc a w1 fit l ok1 in
      let la = lives a w1 fit l ok1 tt in
      record {
        now = λ h. end_lives core.cells v.ends y (body_has a w1 u (omega arith) em.moves.ends la h);
        ends = λ k lt h. end_ways core.cells v.ends y k (has_more u.ends v.ends (suc k) (leave_same u u.now) (la.ends (suc k) (omega (arith, lt)) h));
      })
  lives (Leave k) w fit l ok is = open_when (Leave k) w.now w (leave_work k w) refl is (λ o e. record { now = λ h. absurd (cc h); ends = λ j lt h. subst (HasWay (add_way w.ends k (way_of w o))) (eqb-true k j h) (has_added w.ends k (way_of w o) l) })
  lives (Again k) w fit l ok is = open_when (Again k) w.now w (again_work k w) refl is (λ o e. record { now = λ h. absurd (cc h); ends = λ j lt h. absurd (cc h) })
