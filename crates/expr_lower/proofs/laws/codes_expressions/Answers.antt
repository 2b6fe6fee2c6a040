use Rattle.expr_lower.proofs.Coding.{is_coded}
use Rattle.expr_lower.proofs.laws.codes_expressions.Goals as goal

pub returns : goal.returns
returns c = is_coded c.expressions_unfold.ensures
