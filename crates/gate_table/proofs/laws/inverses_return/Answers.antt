use Rattle.gate_table.proofs.Columns.{inverses_return}
use Rattle.gate_table.proofs.laws.inverses_return.Goals as goal

pub returns : goal.returns
returns c = inverses_return
