use Rattle.std.proofs.Common.{◌≡◌, ℕ, length}
use Rattle.alias_resolve.specs.declared.select.SelectFault.{SelectFault}
use Rattle.alias_resolve.specs.Numbers.{numbers_from}
use Rattle.alias_resolve.specs.Places.{places_in}
use Rattle.alias_resolve.proofs.Placing.{behind}
use Rattle.alias_resolve.proofs.Ranges.{room}
use Rattle.alias_resolve.proofs.range.range_places.Given as goal

abbrev pub invariant-loop-place : goal.invariant-loop-place
invariant-loop-place l =
    (fault_at : ℕ → SelectFault) → places_in fault_at l.size 0 (numbers_from l.start l.step l.stop) ≡
    behind l.places.items (places_in fault_at l.size (length l.places.items) (numbers_from l.number l.step l.stop))

abbrev pub decreases-loop-place : goal.decreases-loop-place
decreases-loop-place l = room l.size l.step l.number
