use Rattle.std.proofs.Common.{◌≡◌, take}
use Rattle.profile_check.specs.First.{first_among}
use Rattle.profile_check.specs.Rounds.{lost_uses, has_bit}
use Rattle.profile_check.proofs.carried.first_lost_use.Given as goal

-- the first among the uses so far
abbrev pub invariant-loop-one : goal.invariant-loop-one
invariant-loop-one l = l.first ≡ first_among l.fn.found (lost_uses (has_bit l.carried) (has_bit l.assigned) (take l.one-index l.uses))
