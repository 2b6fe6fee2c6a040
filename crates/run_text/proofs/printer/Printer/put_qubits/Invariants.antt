use Rattle.std.proofs.Common.{take}
use Rattle.std.specs.List.{flat_map}
use Rattle.run_text.specs.Shown.{qubit_text}
use Rattle.run_text.specs.Printing.{Prints, desk}
use Rattle.run_text.proofs.printer.Printer.put_qubits.Given as goal

abbrev pub invariant-loop-qubit : goal.invariant-loop-qubit
invariant-loop-qubit g l =
    let taken = g.O.Sink.taken in
    let faults = g.O.Sink.faults in
    Prints (desk (taken l.fn.out) (faults l.fn.out) l.fn.self) (flat_map qubit_text (take l.qubit-index l.qubits)) (desk (taken l.out) (faults l.out) l.self)
