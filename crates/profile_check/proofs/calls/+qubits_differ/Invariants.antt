use Rattle.std.proofs.Common.{length}
use Rattle.profile_check.proofs.calls.+qubits_differ.Given as goal

abbrev pub decreases-qubits_differ : goal.decreases-qubits_differ
decreases-qubits_differ l = length l.kinds.now
