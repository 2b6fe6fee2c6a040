use Rattle.std.proofs.Common.{drop}
use Rattle.profile_check.specs.Phis.{HasCounts, names_in}
use Rattle.profile_check.proofs.phis.count_names.Given as goal

-- the names of the entries that were gone through, from the last back
abbrev pub invariant-loop-i : goal.invariant-loop-i
invariant-loop-i l = HasCounts l.counts (names_in (drop l.i l.entries))
