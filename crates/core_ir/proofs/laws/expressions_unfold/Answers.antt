use Rattle.core_ir.proofs.Exprs.{unfold_expr}
use Rattle.core_ir.proofs.laws.expressions_unfold.Goals as goal

pub returns : goal.returns
returns c = unfold_expr
