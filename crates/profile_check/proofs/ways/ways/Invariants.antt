use Rattle.profile_check.specs.Ways.{AreWaysAmong}
use Rattle.profile_check.proofs.ways.ways.Given as goal

abbrev pub invariant-loop-from : goal.invariant-loop-from
invariant-loop-from l = AreWaysAmong l.ways.items l.blocks l.from
