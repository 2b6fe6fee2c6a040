use Rattle.gate_table.proofs.Columns.{names_are_gates}
use Rattle.gate_table.proofs.laws.names_are_gates.Goals as goal

pub returns : goal.returns
returns c = names_are_gates
