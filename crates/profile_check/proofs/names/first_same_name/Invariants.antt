use Rattle.std.proofs.Common.{◌≡◌, drop}
use Rattle.profile_check.specs.Walk.{first_place}
use Rattle.profile_check.specs.Names.{named_before}
use Rattle.profile_check.proofs.names.first_same_name.Given as goal

-- the first in the blocks that are left is the first in all
abbrev pub invariant-loop-block : goal.invariant-loop-block
invariant-loop-block l = first_place (named_before l.blocks) l.block (drop l.block l.blocks) ≡ first_place (named_before l.blocks) 0 l.blocks
