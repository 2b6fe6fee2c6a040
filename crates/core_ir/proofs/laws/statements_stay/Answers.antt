use Rattle.core_ir.proofs.Stays.{stmts_stay}
use Rattle.core_ir.proofs.laws.statements_stay.Goals as goal

pub returns : goal.returns
returns c = stmts_stay
