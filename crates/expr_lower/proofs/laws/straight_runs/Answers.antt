use Rattle.expr_lower.proofs.Registers.{straight_runs}
use Rattle.expr_lower.proofs.laws.straight_runs.Goals as goal

pub returns : goal.returns
returns c = straight_runs
