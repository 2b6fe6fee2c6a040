use Rattle.std.proofs.Common.{◌≡◌, ℕ, map, drop}
use Rattle.alias_resolve.specs.declared.select.SelectFault.{SelectFault}
use Rattle.alias_resolve.specs.Numbers.{from_start}
use Rattle.alias_resolve.specs.Places.{places_in}
use Rattle.alias_resolve.proofs.Placing.{behind}
use Rattle.alias_resolve.proofs.range.set_places.Given as goal

abbrev pub invariant-loop-member : goal.invariant-loop-member
invariant-loop-member l =
    (fault_at : ℕ → SelectFault) → places_in fault_at l.size 0 (map (from_start l.size) l.members) ≡
    behind l.places.items (places_in fault_at l.size l.member (map (from_start l.size) (drop l.member l.members)))
