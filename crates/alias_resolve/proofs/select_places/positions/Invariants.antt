use Rattle.std.proofs.Common.{◌≡◌, ◌+◌, drop}
use Rattle.alias_resolve.specs.Places.{positions_of, narrowed_by}
use Rattle.alias_resolve.specs.Seen.{seen_places}
use Rattle.alias_resolve.proofs.Bounds.{Fits}
use Rattle.alias_resolve.proofs.select_places.positions.Given as goal

abbrev pub invariant-loop-k : goal.invariant-loop-k
invariant-loop-k l = record {
  due : positions_of l.length l.fn.index ≡ narrowed_by (l.k + 1) (seen_places l.selection) (drop l.k l.later);
  fits : Fits l.length l.selection.places.items;
}
