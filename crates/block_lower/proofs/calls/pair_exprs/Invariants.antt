use Rattle.std.proofs.Common.{◌≡◌, take}
use Rattle.core_ir.specs.Size.{pair_exprs}
use Rattle.block_lower.proofs.calls.pair_exprs.Given as goal

abbrev pub invariant-loop-pair : goal.invariant-loop-pair
invariant-loop-pair l = l.exprs.items ≡ pair_exprs (take l.pair-index l.pairs)
