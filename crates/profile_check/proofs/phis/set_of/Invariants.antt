use Rattle.std.proofs.Common.{drop}
use Rattle.profile_check.specs.Registers.{HasAll}
use Rattle.profile_check.proofs.phis.set_of.Given as goal

abbrev pub invariant-loop-i : goal.invariant-loop-i
invariant-loop-i l = HasAll l.set (drop l.i l.names)
