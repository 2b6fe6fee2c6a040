use Rattle.gate_table.proofs.Columns.{inverses_take_the_same, inverses_are_gates}
use Rattle.gate_table.proofs.laws.inverses_take_the_same.Goals as goal

pub returns : goal.returns
returns c = record { takes = inverses_take_the_same; gates = inverses_are_gates }
