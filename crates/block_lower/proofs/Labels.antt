-- How many labels the lowering makes.
use Rattle.std.proofs.Common.{ℕ, ◌+◌, ◌*◌, ◌≤◌, if◌then◌else◌, Bool, true, false, ◌&&◌, List, [], ◌∷◌, ◌++◌, length, Option, Some, None, arith, length-append, length-set}
use Rattle.qir_module.specs.declared.instruction.Operand.{Operand}
use Rattle.core_ir.specs.declared.expression.CellKind.{CellKind}
use Rattle.core_ir.specs.Core.{Core}
use Rattle.core_ir.specs.Size.{knots_of}
use Rattle.core_ir.specs.Tree.{Stmt, Skip, Seq, Assign, Gate, Reset, Measure, If, Block, Loop, Leave, Again}
use Rattle.core_ir.specs.Ways.{Falls, reaches}
use Rattle.qq_base.specs.declared.run.QubitId.{QubitId}
use Rattle.phi_place.specs.State.{CellState}
use Rattle.block_graph.specs.Work.{Level, Open, Work}
use Rattle.block_graph.specs.Lowering.{Coder, when_open, measure_work, leave_zero, join_work, open_end, close_end, start_needs, open_loop, close_start, open_first, fall_work, fall_ways, open_second, join_bodies, two_bodies, lower_of}

-- at most n more labels
pub record Makes (n : ℕ) (w v : Work) : Type 0 where
  pub labels : length v.targets ≤ length w.targets + n

none : (w : Work) (n : ℕ) → Makes n w w
none w n = record { labels = omega arith }

both : (n m all : ℕ) (w u v : Work) → n + m ≤ all → Makes n w u → Makes m u v → Makes all w v
both n m all w u v le f g = record { labels = omega (arith, le, f.labels, g.labels) }

when_makes : (n : ℕ) (w : Work) (f : Open → Work) (now : Option Open) → ((o : Open) → Makes n w (f o)) → Makes n w (when_open now w f)
when_makes n w f None each = none w n
when_makes n w f (Some o) each = each o

fall_makes : (label : ℕ) (w : Work) → Makes 0 w (fall_work label w)
fall_makes label w = when_makes 0 w _ w.now (λ o. record { labels = omega arith })

join_makes : (kinds : List CellKind) (label : ℕ) (ways : List CellState) (w : Work) → Makes 0 w (join_work kinds label ways w)
join_makes kinds label [] w = none w 0
join_makes kinds label (way ∷ ways) w = record { labels = omega (arith, length-set w.targets label (length w.done)) }

close_end_makes : (kinds : List CellKind) (ls : List Level) (w : Work) → Makes 0 w (close_end kinds ls w)
close_end_makes kinds [] w = none w 0
close_end_makes kinds (l ∷ ls) w = both 0 0 0 w (record w { ends = ls }) (join_work kinds l.label l.ways (record w { ends = ls })) (omega arith) (record { labels = omega arith }) (join_makes kinds l.label l.ways (record w { ends = ls }))

close_start_makes : (kinds : List CellKind) (needs : ℕ → Bool) (late next : ℕ) (ls : List Level) (w : Work) → Makes 0 w (close_start kinds needs late next ls w)
close_start_makes kinds needs late next [] w = none w 0
close_start_makes kinds needs late next (l ∷ ls) w = record { labels = omega arith }

leave_makes : (w : Work) → Makes 0 w (leave_zero w)
leave_makes w = when_makes 0 w _ w.now (λ o. record { labels = omega arith })

open_end_makes : (w : Work) → Makes 1 w (open_end w)
open_end_makes w = record { labels = omega (arith, length-append w.targets (0 ∷ [])) }

open_loop_makes : (kinds : List CellKind) (needs : ℕ → Bool) (w : Work) (o : Open) → Makes 2 w (open_loop kinds needs w o)
open_loop_makes kinds needs w o = record { labels = omega (arith, length-append w.targets ((length w.done + 1) ∷ 0 ∷ [])) }

open_first_makes : (coder : Coder) (holds : Bool) (test : ℕ) (w : Work) (o : Open) → Makes 3 w (open_first coder holds test w o)
open_first_makes coder holds test w o = record { labels = omega (arith, length-append w.targets ((length w.done + 1) ∷ 0 ∷ 0 ∷ [])) }

open_second_makes : (label : ℕ) (values : List Operand) (w : Work) → Makes 0 w (open_second label values w)
open_second_makes label values w = record { labels = omega (arith, length-set w.targets label (length w.done)) }

join_bodies_makes : (kinds : List CellKind) (label : ℕ) (ways : List CellState) (u : Work) → Makes 0 u (join_bodies kinds label ways u)
join_bodies_makes kinds label [] u = none u 0
join_bodies_makes kinds label (way ∷ ways) u = both 0 0 0 u (fall_work label u) _ (omega arith) (fall_makes label u) (join_makes kinds label ((way ∷ ways) ++ fall_ways u u.now) (fall_work label u))

two_makes : (n : ℕ) (kinds : List CellKind) (label : ℕ) (values : List Operand) (v : Work) (second : Work → Work) → ((w : Work) → Makes n w (second w)) → Makes n v (two_bodies kinds label values v second)
two_makes n kinds label values v second makes =
    let f = fall_work (label + 2) v in
    let o = open_second (label + 1) values f in
    both 0 n n v f _ (omega arith) (fall_makes (label + 2) v) (both 0 n n f o _ (omega arith) (open_second_makes (label + 1) values f)
    (both n 0 n o (second o) _ (omega arith) (makes o) (join_bodies_makes kinds (label + 2) (fall_ways v v.now) (second o))))

either_makes : (n : ℕ) (w x y : Work) (b : Bool) → Makes n w x → Makes n w y → Makes n w (if b then x else y)
either_makes n w x y true f g = f
either_makes n w x y false f g = g

measure_makes : (w : Work) (o : Open) (qubit : QubitId) (into : Option ℕ) → Makes 0 w (measure_work qubit into w o)
measure_makes w o qubit None = record { labels = omega arith }
measure_makes w o qubit (Some c) = record { labels = omega arith }

two_least : (b : Bool) → 2 ≤ (if b then 3 else 2)
two_least true = omega arith
two_least false = omega arith

-- three labels a knot at most
pub lower_makes : (core : Core) (coder : Coder) (s : Stmt) (w : Work) → Makes (3 * knots_of s) w (lower_of core coder s w)
lower_makes core coder Skip w = none w _
lower_makes core coder (Seq a b) w = both (3 * knots_of a) (3 * knots_of b) _ w (lower_of core coder a w) _ (omega arith) (lower_makes core coder a w) (lower_makes core coder b (lower_of core coder a w))
lower_makes core coder (Assign pairs) w = when_makes _ w _ w.now (λ o. record { labels = omega arith })
lower_makes core coder (Gate leaf) w = when_makes _ w _ w.now (λ o. record { labels = omega arith })
lower_makes core coder (Reset qubit) w = when_makes _ w _ w.now (λ o. record { labels = omega arith })
lower_makes core coder (Measure qubit into) w = when_makes _ w _ w.now (λ o. measure_makes w o qubit into)
lower_makes core coder (If test a b) w =
    let knots = if reaches a Falls && reaches b Falls then 3 else 2 in
    let least : 2 ≤ knots = two_least (reaches a Falls && reaches b Falls) in
    when_makes _ w _ w.now (λ o. either_makes _ w
    (two_bodies core.cells (length w.targets) o.values (lower_of core coder a (open_first coder true test w o)) (lower_of core coder b))
    (two_bodies core.cells (length w.targets) o.values (lower_of core coder b (open_first coder false test w o)) (lower_of core coder a))
    (reaches b Falls)
    (both 3 (3 * knots_of a + 3 * knots_of b) _ w (open_first coder true test w o) _ (omega (arith, least)) (open_first_makes coder true test w o)
    (both (3 * knots_of a) (3 * knots_of b) _ (open_first coder true test w o) (lower_of core coder a (open_first coder true test w o)) _ (omega arith) (lower_makes core coder a (open_first coder true test w o))
    (two_makes (3 * knots_of b) core.cells (length w.targets) o.values (lower_of core coder a (open_first coder true test w o)) (lower_of core coder b) (λ x. lower_makes core coder b x))))
    (both 3 (3 * knots_of b + 3 * knots_of a) _ w (open_first coder false test w o) _ (omega (arith, least)) (open_first_makes coder false test w o)
    (both (3 * knots_of b) (3 * knots_of a) _ (open_first coder false test w o) (lower_of core coder b (open_first coder false test w o)) _ (omega arith) (lower_makes core coder b (open_first coder false test w o))
    (two_makes (3 * knots_of a) core.cells (length w.targets) o.values (lower_of core coder b (open_first coder false test w o)) (lower_of core coder a) (λ x. lower_makes core coder a x)))))
lower_makes core coder (Block a) w =
    when_makes _ w _ w.now (λ o.
    let u = lower_of core coder a (open_end w) in
    let v = leave_zero u in
    both 1 (3 * knots_of a) _ w (open_end w) _ (omega arith) (open_end_makes w)
    (both (3 * knots_of a) 0 _ (open_end w) u _ (omega arith) (lower_makes core coder a (open_end w)) (both 0 0 0 u v _ (omega arith) (leave_makes u) (close_end_makes core.cells v.ends v))))
lower_makes core coder (Loop a) w =
    when_makes _ w _ w.now (λ o.
    let needs = start_needs core.exprs a o.values in
    let begun = open_loop core.cells needs w o in
    let u = lower_of core coder a begun in
    let v = leave_zero u in
    let x = close_start core.cells needs (length w.lates) w.next v.starts v in
    both 2 (3 * knots_of a) _ w begun _ (omega arith) (open_loop_makes core.cells needs w o)
    (both (3 * knots_of a) 0 _ begun u _ (omega arith) (lower_makes core coder a begun)
    (both 0 0 0 u v _ (omega arith) (leave_makes u) (both 0 0 0 v x _ (omega arith) (close_start_makes core.cells needs (length w.lates) w.next v.starts v) (close_end_makes core.cells v.ends x)))))
lower_makes core coder (Leave k) w = when_makes _ w _ w.now (λ o. record { labels = omega arith })
lower_makes core coder (Again k) w = when_makes _ w _ w.now (λ o. record { labels = omega arith })
