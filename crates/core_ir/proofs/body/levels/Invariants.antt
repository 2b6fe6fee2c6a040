use Rattle.std.proofs.Common.{◌≡◌, ◌+◌, ◌≤◌}
use Rattle.core_ir.specs.Levels.{levels_below}
use Rattle.core_ir.proofs.body.levels.Given as goal

-- the levels so far and those around the statement at hand are all
abbrev pub invariant-loop-left : goal.invariant-loop-left
invariant-loop-left l = (l.levels + levels_below l.loops l.stmts l.left l.inner ≡ levels_below l.loops l.stmts l.k l.k) × (l.levels + l.left ≤ l.k)

abbrev pub decreases-loop-left : goal.decreases-loop-left
decreases-loop-left l = l.left
