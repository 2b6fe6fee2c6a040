use Rattle.cell_exprs.proofs.Scaling.{shifted_value}
use Rattle.cell_exprs.proofs.laws.shifted_parts_have_values.Goals as goal

pub returns : goal.returns
returns c = shifted_value
