use Rattle.gate_table.proofs.Columns.{controls_add_a_qubit}
use Rattle.gate_table.proofs.laws.controls_add_a_qubit.Goals as goal

pub returns : goal.returns
returns c = controls_add_a_qubit
