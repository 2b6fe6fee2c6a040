use Rattle.std.proofs.Common.{length}
use Rattle.profile_check.proofs.calls.+has_qubit.Given as goal

abbrev pub decreases-has_qubit : goal.decreases-has_qubit
decreases-has_qubit l = length l.kinds.now
