use Rattle.std.proofs.Common.{ℕ, ◌<◌, get_or}
use Rattle.core_ir.specs.declared.statement.CoreStmt.{CoreStmt}
use Rattle.block_graph.specs.Bounds.{IsHeldStmt}
use Rattle.block_lower.proofs.held.stmts_held.Given as goal

abbrev pub invariant-loop-stmt : goal.invariant-loop-stmt
invariant-loop-stmt l = (k : ℕ) (d : CoreStmt) → k < l.stmt-index → IsHeldStmt (get_or l.stmts k d)
