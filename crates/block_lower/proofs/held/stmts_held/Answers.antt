use Rattle.std.proofs.Common.{arith, subst}
use Rattle.block_graph.specs.Bounds.{IsHeldStmt}
use Rattle.block_lower.proofs.Holding.{held_next}
use Rattle.block_lower.proofs.held.stmts_held.Goals as goal

pub loop-stmt-preserved : goal.loop-stmt-preserved
loop-stmt-preserved c = held_next IsHeldStmt c.args.stmts.now c.loop-stmt.stmt-index c.stmt-item.result (omega arith) c.loop-stmt.invariant (subst IsHeldStmt c.stmt-item.is c.stmt_held.ensures)

pub returns : goal.returns
returns c k d lt = c.loop-stmt.invariant k d (omega (arith, lt))
