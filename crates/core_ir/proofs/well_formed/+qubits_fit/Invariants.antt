use Rattle.std.proofs.Common.{length}
use Rattle.core_ir.proofs.well_formed.+qubits_fit.Given as goal

abbrev pub decreases-qubits_fit : goal.decreases-qubits_fit
decreases-qubits_fit l = length l.qubits.now
