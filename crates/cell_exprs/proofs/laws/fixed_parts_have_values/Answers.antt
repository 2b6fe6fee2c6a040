use Rattle.cell_exprs.proofs.Numbers.{fixed_have_values}
use Rattle.cell_exprs.proofs.laws.fixed_parts_have_values.Goals as goal

pub returns : goal.returns
returns c = fixed_have_values
