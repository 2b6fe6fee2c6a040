use Rattle.cell_operands.proofs.Staying.{cells_stay}
use Rattle.cell_operands.proofs.laws.cells_stay.Goals as goal

pub returns : goal.returns
returns c = cells_stay
