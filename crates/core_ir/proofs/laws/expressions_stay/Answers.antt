use Rattle.core_ir.proofs.Stays.{exprs_stay}
use Rattle.core_ir.proofs.laws.expressions_stay.Goals as goal

pub returns : goal.returns
returns c = exprs_stay
