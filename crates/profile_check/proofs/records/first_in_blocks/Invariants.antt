use Rattle.std.proofs.Common.{◌≡◌, take, drop}
use Rattle.qir_module.specs.Passes.{some_returns}
use Rattle.profile_check.specs.Walk.{first_place}
use Rattle.profile_check.specs.Records.{records_at}
use Rattle.profile_check.proofs.records.first_in_blocks.Given as goal

-- the first in the blocks that are left is the first in all
abbrev pub invariant-loop-place : goal.invariant-loop-place
invariant-loop-place l =
    (l.returned ≡ some_returns (take l.place l.blocks))
    × (first_place (records_at l.blocks) l.place (drop l.place l.blocks) ≡ first_place (records_at l.blocks) 0 l.blocks)
