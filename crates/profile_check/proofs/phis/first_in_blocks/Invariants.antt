use Rattle.std.proofs.Common.{◌≡◌, drop}
use Rattle.profile_check.specs.Walk.{first_place}
use Rattle.profile_check.specs.Phis.{wrong_phi_at}
use Rattle.profile_check.proofs.phis.first_in_blocks.Given as goal

abbrev pub invariant-loop-place : goal.invariant-loop-place
invariant-loop-place l = first_place (wrong_phi_at l.blocks) l.place (drop l.place l.blocks) ≡ first_place (wrong_phi_at l.blocks) 0 l.blocks
