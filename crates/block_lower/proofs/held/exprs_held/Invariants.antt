use Rattle.std.proofs.Common.{ℕ, ◌<◌, get_or}
use Rattle.core_ir.specs.declared.expression.CoreExpr.{CoreExpr}
use Rattle.expr_lower.specs.Lowered.{IsHeldExpr}
use Rattle.block_lower.proofs.held.exprs_held.Given as goal

abbrev pub invariant-loop-expr : goal.invariant-loop-expr
invariant-loop-expr l = (k : ℕ) (d : CoreExpr) → k < l.expr-index → IsHeldExpr (get_or l.exprs k d)
