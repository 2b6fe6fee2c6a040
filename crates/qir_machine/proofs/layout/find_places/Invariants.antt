use Rattle.std.proofs.Common.{◌≡◌, ℕ, nat_eq, drop}
use Rattle.std.specs.HashMap.{get}
use Rattle.qir_module.specs.Machine.{place_from}
use Rattle.qir_machine.proofs.layout.find_places.Given as goal

-- the names of the blocks that were gone through, from the last back
abbrev pub invariant-loop-place : goal.invariant-loop-place
invariant-loop-place l = (name : ℕ) → get nat_eq l.places name ≡ place_from l.place (drop l.place l.blocks) name
