use Rattle.core_sizes.proofs.Statements.{bounded}
use Rattle.core_sizes.proofs.cores_are_bounded.Goals as goal

pub returns : goal.returns
returns c = bounded
