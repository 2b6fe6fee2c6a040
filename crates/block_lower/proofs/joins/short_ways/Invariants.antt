use Rattle.std.proofs.Common.{◌≡◌, map, take}
use Rattle.block_lower.specs.Kept.{shortened}
use Rattle.block_lower.proofs.joins.short_ways.Given as goal

abbrev pub invariant-loop-way : goal.invariant-loop-way
invariant-loop-way l = l.short.items ≡ map (shortened l.cells) (take l.way-index l.ways)
