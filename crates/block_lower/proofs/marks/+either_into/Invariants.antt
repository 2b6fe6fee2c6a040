use Rattle.std.proofs.Common.{length}
use Rattle.block_lower.proofs.marks.+either_into.Given as goal

abbrev pub decreases-either_into : goal.decreases-either_into
decreases-either_into l = length l.list.now
