use Rattle.std.proofs.Common.{◌≡◌, ◌+◌, ◌-◌, ◌*◌, ◌≤◌, length, drop}
use Rattle.core_ir.specs.Tree.{body_of}
use Rattle.block_lower.specs.Marks.{marks}
use Rattle.block_lower.proofs.exits.+marking.Given as goal

abbrev pub decreases-mark_stmt : goal.decreases-mark_stmt
decreases-mark_stmt l = 3 * (length l.core.now.stmts - l.k) + 1

abbrev pub decreases-mark_node : goal.decreases-mark_node
decreases-mark_node l = 3 * (length l.core.now.stmts - l.least) + 3

abbrev pub decreases-mark_body : goal.decreases-mark_body
decreases-mark_body l = 3 * (length l.core.now.stmts - l.least) + 2

-- the marks of the statements behind
abbrev pub invariant-mark_body-loop-left : goal.invariant-mark_body-loop-left
invariant-mark_body-loop-left l = (l.all ≡ marks l.core.exprs (body_of l.core.stmts (drop l.left l.body)) l.c) × (l.left ≤ length l.body)

abbrev pub decreases-mark_body-loop-left : goal.decreases-mark_body-loop-left
decreases-mark_body-loop-left l = l.left
