use Rattle.std.proofs.Common.{◌≡◌, take}
use Rattle.block_lower.specs.Kept.{pair_cells}
use Rattle.block_lower.proofs.calls.pair_cells.Given as goal

abbrev pub invariant-loop-pair : goal.invariant-loop-pair
invariant-loop-pair l = l.cells.items ≡ pair_cells (take l.pair-index l.pairs)
