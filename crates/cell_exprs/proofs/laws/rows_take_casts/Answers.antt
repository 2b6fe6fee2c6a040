use Rattle.cell_exprs.proofs.Taking.{row_takes}
use Rattle.cell_exprs.proofs.laws.rows_take_casts.Goals as goal

pub returns : goal.returns
returns c = row_takes
