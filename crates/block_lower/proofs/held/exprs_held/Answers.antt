use Rattle.std.proofs.Common.{arith}
use Rattle.expr_lower.specs.Lowered.{IsHeldExpr}
use Rattle.block_lower.proofs.Holding.{held_next}
use Rattle.block_lower.proofs.held.exprs_held.Goals as goal

pub loop-expr-preserved : goal.loop-expr-preserved
loop-expr-preserved c = held_next IsHeldExpr c.args.exprs.now c.loop-expr.expr-index _ (omega arith) c.loop-expr.invariant c.expr_held.ensures

pub returns : goal.returns
returns c k d lt = c.loop-expr.invariant k d (omega (arith, lt))
