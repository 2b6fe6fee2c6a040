use Rattle.std.proofs.Common.{length}
use Rattle.block_lower.proofs.calls.+add_units.Given as goal

abbrev pub decreases-add_units : goal.decreases-add_units
decreases-add_units l = length l.args.now
