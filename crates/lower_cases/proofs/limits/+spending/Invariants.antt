use Rattle.std.proofs.Common.{◌+◌, ◌*◌, ◌≤◌, take}
use Rattle.core_ir.specs.Tree.{stmt_within, sequence}
use Rattle.lower_cases.specs.Bound.{price_of}
use Rattle.lower_cases.proofs.limits.+spending.Given as goal

abbrev pub decreases-spend_body : goal.decreases-spend_body
decreases-spend_body l = 3 * l.levels + 2

abbrev pub decreases-spend_stmt : goal.decreases-spend_stmt
decreases-spend_stmt l = 3 * l.levels + 1

abbrev pub decreases-spend_node : goal.decreases-spend_node
decreases-spend_node l = 3 * l.levels + 3

-- what the statements so far have spent
abbrev pub invariant-spend_body-loop-k : goal.invariant-spend_body-loop-k
invariant-spend_body-loop-k l = price_of l.prices (sequence (stmt_within l.core.stmts l.levels) (take l.k-index l.body)) + l.left ≤ l.budget
