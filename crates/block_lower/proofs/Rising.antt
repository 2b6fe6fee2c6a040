-- The numbers of a graph never fall while statements are lowered, so that what is small at the end was small before.
use Rattle.std.proofs.Common.{◌≡◌, ℕ, suc, ◌+◌, ◌<◌, ◌≤◌, if◌then◌else◌, Bool, true, false, List, [], ◌∷◌, ◌++◌, length, Option, Some, None, refl, arith, length-append, length-set}
use Rattle.qq_base.specs.declared.run.QubitId.{QubitId}
use Rattle.qir_module.specs.declared.instruction.Operand.{Operand}
use Rattle.core_ir.specs.declared.expression.CellKind.{CellKind}
use Rattle.core_ir.specs.Core.{Core}
use Rattle.core_ir.specs.Tree.{Stmt, Skip, Seq, Assign, Gate, Reset, Measure, If, Block, Loop, Leave, Again}
use Rattle.core_ir.specs.Ways.{Falls, reaches}
use Rattle.phi_place.specs.State.{CellState}
use Rattle.phi_place.specs.Phis.{ways_differ}
use Rattle.block_graph.specs.Work.{Level, Open, Work}
use Rattle.block_graph.specs.Lowering.{Coder, when_open, measure_work, leave_zero, next_for, join_work, open_end, close_end, start_needs, open_loop, close_start, open_first, fall_work, fall_ways, open_second, join_bodies, two_bodies, lower_of}
use Rattle.block_lower.specs.Parts.{IsSmall, choice_of}

pub record Rises (w v : Work) : Type 0 where
  pub next : w.next ≤ v.next
  pub results : w.results ≤ v.results
  pub blocks : length w.done ≤ length v.done
  pub labels : length w.targets ≤ length v.targets

rises_refl : (w : Work) → Rises w w
rises_refl w = record { next = omega arith; results = omega arith; blocks = omega arith; labels = omega arith }

rises_then : (w u v : Work) → Rises w u → Rises u v → Rises w v
rises_then w u v f g = record { next = omega (arith, f.next, g.next); results = omega (arith, f.results, g.results); blocks = omega (arith, f.blocks, g.blocks); labels = omega (arith, f.labels, g.labels) }

-- what is small at the end was small before
pub small_before : (w v : Work) → Rises w v → IsSmall v → IsSmall w
small_before w v rises small = record {
  next = omega (arith, rises.next, small.next);
  results = omega (arith, rises.results, small.results);
  blocks = omega (arith, rises.blocks, small.blocks);
  labels = omega (arith, rises.labels, small.labels);
}

-- ---- steps

longer : {A : Type 0} (xs ys : List A) → length xs ≤ length (xs ++ ys)
longer xs ys = omega (arith, length-append xs ys)

when_rises : (w : Work) (f : Open → Work) (now : Option Open) → ((o : Open) → Rises w (f o)) → Rises w (when_open now w f)
when_rises w f None each = rises_refl w
when_rises w f (Some o) each = each o

pub fall_rises : (label : ℕ) (w : Work) → Rises w (fall_work label w)
fall_rises label w = when_rises w _ w.now (λ o. record { next = omega arith; results = omega arith; blocks = longer w.done _; labels = omega arith })

next_rises : (needs : ℕ → Bool) (kinds : List CellKind) (c next : ℕ) → next ≤ next_for needs kinds c next
next_rises needs [] c next = omega arith
next_rises needs (kind ∷ kinds) c next = one (needs c) (next_rises needs kinds (suc c) (suc next)) (next_rises needs kinds (suc c) next)
  where
    one : (b : Bool) → suc next ≤ next_for needs kinds (suc c) (suc next) → next ≤ next_for needs kinds (suc c) next → next ≤ (if b then next_for needs kinds (suc c) (suc next) else next_for needs kinds (suc c) next)
    one true le below = omega (arith, le)
    one false le below = below

join_rises : (kinds : List CellKind) (label : ℕ) (ways : List CellState) (w : Work) → Rises w (join_work kinds label ways w)
join_rises kinds label [] w = rises_refl w
join_rises kinds label (way ∷ ways) w = record { next = next_rises (ways_differ (way ∷ ways)) kinds 0 w.next; results = omega arith; blocks = omega arith; labels = omega (arith, length-set w.targets label (length w.done)) }

pub close_end_rises : (kinds : List CellKind) (ls : List Level) (w : Work) → Rises w (close_end kinds ls w)
close_end_rises kinds [] w = rises_refl w
close_end_rises kinds (l ∷ ls) w = rises_then w (record w { ends = ls }) (join_work kinds l.label l.ways (record w { ends = ls })) (record { next = omega arith; results = omega arith; blocks = omega arith; labels = omega arith }) (join_rises kinds l.label l.ways (record w { ends = ls }))

pub close_start_rises : (kinds : List CellKind) (needs : ℕ → Bool) (late next : ℕ) (ls : List Level) (w : Work) → Rises w (close_start kinds needs late next ls w)
close_start_rises kinds needs late next [] w = rises_refl w
close_start_rises kinds needs late next (l ∷ ls) w = record { next = omega arith; results = omega arith; blocks = omega arith; labels = omega arith }

pub leave_rises : (w : Work) → Rises w (leave_zero w)
leave_rises w = when_rises w _ w.now (λ o. record { next = omega arith; results = omega arith; blocks = longer w.done _; labels = omega arith })

pub open_end_rises : (w : Work) → Rises w (open_end w)
open_end_rises w = record { next = omega arith; results = omega arith; blocks = omega arith; labels = longer w.targets _ }

pub open_loop_rises : (kinds : List CellKind) (needs : ℕ → Bool) (w : Work) (o : Open) → Rises w (open_loop kinds needs w o)
open_loop_rises kinds needs w o = record { next = next_rises needs kinds 0 w.next; results = omega arith; blocks = longer w.done _; labels = longer w.targets _ }

pub open_first_rises : (coder : Coder) (holds : Bool) (test : ℕ) (w : Work) (o : Open) → Rises w (open_first coder holds test w o)
open_first_rises coder holds test w o = record { next = omega arith; results = omega arith; blocks = longer w.done _; labels = longer w.targets _ }

pub open_second_rises : (label : ℕ) (values : List Operand) (w : Work) → Rises w (open_second label values w)
open_second_rises label values w = record { next = omega arith; results = omega arith; blocks = omega arith; labels = omega (arith, length-set w.targets label (length w.done)) }

pub join_bodies_rises : (kinds : List CellKind) (label : ℕ) (ways : List CellState) (u : Work) → Rises u (join_bodies kinds label ways u)
join_bodies_rises kinds label [] u = rises_refl u
join_bodies_rises kinds label (way ∷ ways) u = rises_then u (fall_work label u) _ (fall_rises label u) (join_rises kinds label ((way ∷ ways) ++ fall_ways u u.now) (fall_work label u))

two_rises : (kinds : List CellKind) (label : ℕ) (values : List Operand) (v : Work) (second : Work → Work) → ((w : Work) → Rises w (second w)) → Rises v (two_bodies kinds label values v second)
two_rises kinds label values v second rises =
    let f = fall_work (label + 2) v in
    let o = open_second (label + 1) values f in
    rises_then v f _ (fall_rises (label + 2) v) (rises_then f o _ (open_second_rises (label + 1) values f)
    (rises_then o (second o) _ (rises o) (join_bodies_rises kinds (label + 2) (fall_ways v v.now) (second o))))

either_rises : (w x y : Work) (b : Bool) → Rises w x → Rises w y → Rises w (if b then x else y)
either_rises w x y true f g = f
either_rises w x y false f g = g

-- ---- statements

measure_rises : (w : Work) (o : Open) (qubit : QubitId) (into : Option ℕ) → Rises w (measure_work qubit into w o)
measure_rises w o qubit None = record { next = omega arith; results = omega arith; blocks = omega arith; labels = omega arith }
measure_rises w o qubit (Some c) = record { next = omega arith; results = omega arith; blocks = omega arith; labels = omega arith }

pub lower_rises : (core : Core) (coder : Coder) (s : Stmt) (w : Work) → Rises w (lower_of core coder s w)
lower_rises core coder Skip w = rises_refl w
lower_rises core coder (Seq a b) w = rises_then w (lower_of core coder a w) _ (lower_rises core coder a w) (lower_rises core coder b (lower_of core coder a w))
lower_rises core coder (Assign pairs) w = when_rises w _ w.now (λ o. record { next = omega arith; results = omega arith; blocks = omega arith; labels = omega arith })
lower_rises core coder (Gate leaf) w = when_rises w _ w.now (λ o. record { next = omega arith; results = omega arith; blocks = omega arith; labels = omega arith })
lower_rises core coder (Reset qubit) w = when_rises w _ w.now (λ o. record { next = omega arith; results = omega arith; blocks = omega arith; labels = omega arith })
lower_rises core coder (Measure qubit into) w = when_rises w _ w.now (λ o. measure_rises w o qubit into)
lower_rises core coder (If test a b) w =
    when_rises w _ w.now (λ o. either_rises w
    (two_bodies core.cells (length w.targets) o.values (lower_of core coder a (open_first coder true test w o)) (lower_of core coder b))
    (two_bodies core.cells (length w.targets) o.values (lower_of core coder b (open_first coder false test w o)) (lower_of core coder a))
    (reaches b Falls)
    (rises_then w (open_first coder true test w o) _ (open_first_rises coder true test w o)
    (rises_then (open_first coder true test w o) (lower_of core coder a (open_first coder true test w o)) _ (lower_rises core coder a (open_first coder true test w o))
    (two_rises core.cells (length w.targets) o.values (lower_of core coder a (open_first coder true test w o)) (lower_of core coder b) (λ x. lower_rises core coder b x))))
    (rises_then w (open_first coder false test w o) _ (open_first_rises coder false test w o)
    (rises_then (open_first coder false test w o) (lower_of core coder b (open_first coder false test w o)) _ (lower_rises core coder b (open_first coder false test w o))
    (two_rises core.cells (length w.targets) o.values (lower_of core coder b (open_first coder false test w o)) (lower_of core coder a) (λ x. lower_rises core coder a x)))))
lower_rises core coder (Block a) w =
    when_rises w _ w.now (λ o.
    let u = lower_of core coder a (open_end w) in
    let v = leave_zero u in
    rises_then w (open_end w) _ (open_end_rises w) (rises_then (open_end w) u _ (lower_rises core coder a (open_end w)) (rises_then u v _ (leave_rises u) (close_end_rises core.cells v.ends v))))
lower_rises core coder (Loop a) w =
    when_rises w _ w.now (λ o.
    let needs = start_needs core.exprs a o.values in
    let begun = open_loop core.cells needs w o in
    let u = lower_of core coder a begun in
    let v = leave_zero u in
    let x = close_start core.cells needs (length w.lates) w.next v.starts v in
    rises_then w begun _ (open_loop_rises core.cells needs w o) (rises_then begun u _ (lower_rises core coder a begun) (rises_then u v _ (leave_rises u)
    (rises_then v x _ (close_start_rises core.cells needs (length w.lates) w.next v.starts v) (close_end_rises core.cells v.ends x)))))
lower_rises core coder (Leave k) w = when_rises w _ w.now (λ o. record { next = omega arith; results = omega arith; blocks = longer w.done _; labels = omega arith })
lower_rises core coder (Again k) w = when_rises w _ w.now (λ o. record { next = omega arith; results = omega arith; blocks = longer w.done _; labels = omega arith })

-- ---- what the code asks

-- the graph at the steps of a choice
pub record ChoiceIsSmall (core : Core) (coder : Coder) (holds : Bool) (test : ℕ) (a b : Stmt) (w : Work) (o : Open) : Type 0 where
  pub start : IsSmall w
  pub first : IsSmall (lower_of core coder a (open_first coder holds test w o))
  pub fallen : IsSmall (fall_work (length w.targets + 2) (lower_of core coder a (open_first coder holds test w o)))
  pub second : IsSmall (lower_of core coder b (open_second (length w.targets + 1) o.values (fall_work (length w.targets + 2) (lower_of core coder a (open_first coder holds test w o)))))

pub choice_small : (core : Core) (coder : Coder) (holds : Bool) (test : ℕ) (a b : Stmt) (w : Work) (o : Open) → IsSmall (choice_of core coder holds test a b w o) → ChoiceIsSmall core coder holds test a b w o
choice_small core coder holds test a b w o small =
    let begun = open_first coder holds test w o in
    let v = lower_of core coder a begun in
    let f = fall_work (length w.targets + 2) v in
    let s = open_second (length w.targets + 1) o.values f in
    let u = lower_of core coder b s in
    let at_second : IsSmall u = small_before u _ (join_bodies_rises core.cells (length w.targets + 2) (fall_ways v v.now) u) small in
    let at_fallen : IsSmall f = small_before f u (rises_then f s u (open_second_rises (length w.targets + 1) o.values f) (lower_rises core coder b s)) at_second in
    let at_first : IsSmall v = small_before v f (fall_rises (length w.targets + 2) v) at_fallen in
    record {
      start = small_before w v (rises_then w begun v (open_first_rises coder holds test w o) (lower_rises core coder a begun)) at_first;
      first = at_first;
      fallen = at_fallen;
      second = at_second;
    }

pub record BlockIsSmall (core : Core) (coder : Coder) (a : Stmt) (w : Work) : Type 0 where
  pub start : IsSmall w
  pub body : IsSmall (lower_of core coder a (open_end w))
  pub left : IsSmall (leave_zero (lower_of core coder a (open_end w)))

pub block_small : (core : Core) (coder : Coder) (a : Stmt) (w : Work) → IsSmall (close_end core.cells (leave_zero (lower_of core coder a (open_end w))).ends (leave_zero (lower_of core coder a (open_end w)))) → BlockIsSmall core coder a w
block_small core coder a w small =
    let u = lower_of core coder a (open_end w) in
    let v = leave_zero u in
    let at_left : IsSmall v = small_before v _ (close_end_rises core.cells v.ends v) small in
    let at_body : IsSmall u = small_before u v (leave_rises u) at_left in
    record { start = small_before w u (rises_then w (open_end w) u (open_end_rises w) (lower_rises core coder a (open_end w))) at_body; body = at_body; left = at_left }

pub record LoopIsSmall (core : Core) (coder : Coder) (a : Stmt) (needs : ℕ → Bool) (w : Work) (o : Open) : Type 0 where
  pub start : IsSmall w
  pub body : IsSmall (lower_of core coder a (open_loop core.cells needs w o))
  pub left : IsSmall (leave_zero (lower_of core coder a (open_loop core.cells needs w o)))
  pub closed : IsSmall (close_start core.cells needs (length w.lates) w.next (leave_zero (lower_of core coder a (open_loop core.cells needs w o))).starts (leave_zero (lower_of core coder a (open_loop core.cells needs w o))))

abbrev pub loop_of : Core → Coder → Stmt → (ℕ → Bool) → Work → Open → Work
loop_of core coder a needs w o =
    let v = leave_zero (lower_of core coder a (open_loop core.cells needs w o)) in
    close_end core.cells v.ends (close_start core.cells needs (length w.lates) w.next v.starts v)

pub loop_small : (core : Core) (coder : Coder) (a : Stmt) (needs : ℕ → Bool) (w : Work) (o : Open) → IsSmall (loop_of core coder a needs w o) → LoopIsSmall core coder a needs w o
loop_small core coder a needs w o small =
    let begun = open_loop core.cells needs w o in
    let u = lower_of core coder a begun in
    let v = leave_zero u in
    let x = close_start core.cells needs (length w.lates) w.next v.starts v in
    let at_closed : IsSmall x = small_before x _ (close_end_rises core.cells v.ends x) small in
    let at_left : IsSmall v = small_before v x (close_start_rises core.cells needs (length w.lates) w.next v.starts v) at_closed in
    let at_body : IsSmall u = small_before u v (leave_rises u) at_left in
    record { start = small_before w u (rises_then w begun u (open_loop_rises core.cells needs w o) (lower_rises core coder a begun)) at_body; body = at_body; left = at_left; closed = at_closed }

-- closing a start leaves the ends
pub ends_stay : (kinds : List CellKind) (needs : ℕ → Bool) (late next : ℕ) (ls : List Level) (v : Work) → (close_start kinds needs late next ls v).ends ≡ v.ends
ends_stay kinds needs late next [] v = refl
ends_stay kinds needs late next (l ∷ ls) v = refl

pub join_small : (kinds : List CellKind) (label : ℕ) (ways : List CellState) (w : Work) → IsSmall (join_work kinds label ways w) → IsSmall w
join_small kinds label ways w small = small_before w _ (join_rises kinds label ways w) small

pub bodies_small : (kinds : List CellKind) (label : ℕ) (ways : List CellState) (u : Work) → IsSmall (join_bodies kinds label ways u) → IsSmall u
bodies_small kinds label ways u small = small_before u _ (join_bodies_rises kinds label ways u) small

pub statement_small : (core : Core) (coder : Coder) (s : Stmt) (w : Work) → IsSmall (lower_of core coder s w) → IsSmall w
statement_small core coder s w small = small_before w _ (lower_rises core coder s w) small

pub joining_small : (kinds : List CellKind) (label : ℕ) (ways : List CellState) (u : Work) → 0 < length ways → IsSmall (join_bodies kinds label ways u) → IsSmall (fall_work label u)
joining_small kinds label [] u some small = absurd (omega (arith, some))
joining_small kinds label (way ∷ ways) u some small = join_small kinds label ((way ∷ ways) ++ fall_ways u u.now) (fall_work label u) small
