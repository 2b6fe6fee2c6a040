use Rattle.expr_lower.proofs.Few.{few_are_reached}
use Rattle.expr_lower.proofs.laws.few_are_reached.Goals as goal

pub returns : goal.returns
returns c = few_are_reached
