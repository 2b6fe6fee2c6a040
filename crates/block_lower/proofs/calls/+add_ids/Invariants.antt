use Rattle.std.proofs.Common.{length}
use Rattle.block_lower.proofs.calls.+add_ids.Given as goal

abbrev pub decreases-add_ids : goal.decreases-add_ids
decreases-add_ids l = length l.qubits.now
