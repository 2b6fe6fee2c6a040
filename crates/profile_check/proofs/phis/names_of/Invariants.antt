use Rattle.std.proofs.Common.{◌≡◌, ◌++◌, drop}
use Rattle.profile_check.specs.Phis.{names_at}
use Rattle.profile_check.proofs.phis.names_of.Given as goal

-- the names so far and those at the places that are left are all
abbrev pub invariant-loop-place : goal.invariant-loop-place
invariant-loop-place l = l.names.items ++ names_at l.blocks (drop l.place-index l.places) ≡ names_at l.blocks l.places
