use Rattle.std.proofs.Common.{◌≡◌, drop}
use Rattle.profile_check.specs.Walk.{first_in, first_place}
use Rattle.profile_check.proofs.walk.first_refused.Given as goal

-- the first in the blocks that are left is the first in all
abbrev pub invariant-loop-place : goal.invariant-loop-place
invariant-loop-place g l =
    let find = first_in (g.R.Rule.keeps l.rule) in
    first_place find l.place (drop l.place l.blocks) ≡ first_place find 0 l.blocks
