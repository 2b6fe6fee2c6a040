use Rattle.core_ir.proofs.Levels.{unfold_stmt}
use Rattle.core_ir.proofs.laws.statements_unfold.Goals as goal

pub returns : goal.returns
returns c = unfold_stmt
