-- How many expressions are reached.
use Rattle.std.specs.Prelude.{ℕ, ◌≤◌, List, length}
use Rattle.core_ir.specs.declared.expression.CoreExpr.{CoreExpr}
use Rattle.expr_lower.specs.Lowered.{reached_nodes}

-- no more are reached than there are
abbrev pub FewAreReached : Type 0
FewAreReached = (exprs : List CoreExpr) (roots : List ℕ) → reached_nodes exprs roots ≤ length exprs
