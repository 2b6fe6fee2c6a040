use Rattle.std.proofs.Common.{◌≡◌, take}
use Rattle.profile_check.specs.First.{first_among}
use Rattle.profile_check.specs.Rounds.{lost_jumps, has_bit}
use Rattle.profile_check.proofs.carried.first_lost_jump.Given as goal

-- the first among the jumps so far
abbrev pub invariant-loop-jump : goal.invariant-loop-jump
invariant-loop-jump l = l.first ≡ first_among l.fn.found (lost_jumps (has_bit l.carried) (has_bit l.assigned) (take l.jump-index l.jumps))
