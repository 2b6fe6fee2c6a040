use Rattle.std.proofs.Common.{◌≡◌, None, take}
use Rattle.profile_check.specs.First.{first_among}
use Rattle.profile_check.specs.Rounds.{lost_in_rounds}
use Rattle.profile_check.proofs.lost.first_in_rounds.Given as goal

-- the first of the rounds so far
abbrev pub invariant-loop-uses : goal.invariant-loop-uses
invariant-loop-uses l = l.first ≡ first_among None (lost_in_rounds l.blocks l.jumps (take l.uses-index l.rounds))
