use Rattle.std.proofs.Common.{[], ◌∷◌, length, ap, arith}
use Rattle.expr_lower.proofs.Few.{few_are_reached}
use Rattle.expr_lower.proofs.tests.shared_expressions_are_lowered_once.Goals as goal

pub lower_expr-requires-clause-room : goal.lower_expr-requires-clause-room
lower_expr-requires-clause-room g c = omega (arith, few_are_reached c.in_ok-vec-2.field-0.items (3 ∷ 2 ∷ 1 ∷ 0 ∷ []), ap length c.in_ok-vec-2.ensures.items)
