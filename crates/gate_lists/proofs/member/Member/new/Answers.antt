use Rattle.gate_lists.proofs.ByRow.{new_is}
use Rattle.gate_lists.proofs.member.Member.new.Goals as goal

pub returns-clause-seen : goal.returns-clause-seen
returns-clause-seen c = λ worths.
    new_is worths c.args.gate.0 c.args.args.now c.args.qubits.now _ _ c.requires.of_table c.requires.params c.requires.qubits
    _ _ _ _ c.amount_at.ensures c.amount_at-2.ensures c.amount_at-3.ensures c.amount_at-4.ensures _ _ _ c.qubit_at.ensures c.qubit_at-2.ensures c.qubit_at-3.ensures
