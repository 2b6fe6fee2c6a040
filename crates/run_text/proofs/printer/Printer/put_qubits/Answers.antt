use Rattle.run_text.specs.Shown.{qubit_text}
use Rattle.run_text.proofs.Prints.{printed_item}
use Rattle.run_text.proofs.printer.Printer.put_qubits.Goals as goal

pub loop-qubit-preserved : goal.loop-qubit-preserved
loop-qubit-preserved g c = printed_item qubit_text c.args.qubits.now c.loop-qubit.qubit-index _ c.loop-qubit-test.true c.loop-qubit.invariant c.put_qubit.ensures
