use Rattle.std.proofs.Common.{◌≡◌, drop}
use Rattle.profile_check.specs.Ways.{any_below}
use Rattle.profile_check.proofs.ways.has_earlier.Given as goal

abbrev pub invariant-loop-from : goal.invariant-loop-from
invariant-loop-from l = any_below l.place (drop l.from-index l.ways) ≡ any_below l.place l.ways
