use Rattle.std.proofs.Common.{◌≡◌, drop}
use Rattle.profile_check.specs.Walk.{first_place}
use Rattle.profile_check.specs.Ways.{without_earlier}
use Rattle.profile_check.proofs.ways.first_without_earlier.Given as goal

-- the first of the blocks that are left is the first of all
abbrev pub invariant-loop-block : goal.invariant-loop-block
invariant-loop-block l = first_place (without_earlier l.blocks) l.block (drop l.block l.blocks) ≡ first_place (without_earlier l.blocks) 0 l.blocks
