use Rattle.std.proofs.Common.{◌≡◌, ℕ, ◌<◌, ◌≤◌, ◌-◌, ◌++◌, length}
use Rattle.core_ir.specs.WellFormed.{bodies_in, times}
use Rattle.core_ir.proofs.standing.stand_once.Given as goal

abbrev pub invariant-loop-start : goal.invariant-loop-start
invariant-loop-start l = (l.start ≤ length l.stmts) × ((k : ℕ) → k < l.start → times k (l.body ++ bodies_in l.stmts) ≡ 1)

abbrev pub decreases-loop-start : goal.decreases-loop-start
decreases-loop-start l = length l.stmts - l.start
