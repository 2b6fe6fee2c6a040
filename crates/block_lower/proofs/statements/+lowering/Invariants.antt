use Rattle.std.proofs.Common.{◌≡◌, ◌+◌, ◌-◌, ◌*◌, length, drop}
use Rattle.core_ir.specs.Tree.{body_of}
use Rattle.expr_lower.specs.Coded.{coded}
use Rattle.block_graph.specs.Lowering.{lower_of}
use Rattle.block_lower.proofs.statements.+lowering.Given as goal

abbrev pub decreases-lower_stmt : goal.decreases-lower_stmt
decreases-lower_stmt l = 5 * (length l.core.now.stmts - l.k) + 1

abbrev pub decreases-lower_node : goal.decreases-lower_node
decreases-lower_node l = 5 * (length l.core.now.stmts - l.least) + 5

abbrev pub decreases-lower_if : goal.decreases-lower_if
decreases-lower_if l = 5 * (length l.core.now.stmts - l.least) + 4

abbrev pub decreases-lower_choice : goal.decreases-lower_choice
decreases-lower_choice l = 5 * (length l.core.now.stmts - l.least) + 3

abbrev pub decreases-lower_block : goal.decreases-lower_block
decreases-lower_block l = 5 * (length l.core.now.stmts - l.least) + 4

abbrev pub decreases-lower_loop : goal.decreases-lower_loop
decreases-lower_loop l = 5 * (length l.core.now.stmts - l.least) + 4

abbrev pub decreases-lower_body : goal.decreases-lower_body
decreases-lower_body l = 5 * (length l.core.now.stmts - l.least) + 2

-- what is left of the body makes of the graph what the whole body makes of the first one
abbrev pub invariant-lower_body-loop-k : goal.invariant-lower_body-loop-k
invariant-lower_body-loop-k l = lower_of l.core (coded l.core) (body_of l.core.stmts (drop l.k-index l.body)) l.work ≡ lower_of l.core (coded l.core) (body_of l.core.stmts l.body) l.fn.work
