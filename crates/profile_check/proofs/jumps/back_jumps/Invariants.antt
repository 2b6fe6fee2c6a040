use Rattle.std.proofs.Common.{◌≡◌, nat_eq, take}
use Rattle.std.specs.HashMap.{get}
use Rattle.profile_check.specs.Rounds.{jumps_from}
use Rattle.profile_check.proofs.jumps.back_jumps.Given as goal

-- the jumps back of the blocks so far
abbrev pub invariant-loop-block : goal.invariant-loop-block
invariant-loop-block l = l.jumps.items ≡ jumps_from (get nat_eq l.places) 0 (take l.block l.blocks)
