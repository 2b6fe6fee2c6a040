use Rattle.std.proofs.Common.{length}
use Rattle.lower_cases.proofs.limits.+differs.Given as goal

abbrev pub decreases-differs : goal.decreases-differs
decreases-differs l = length l.others.now
