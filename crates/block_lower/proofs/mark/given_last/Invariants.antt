use Rattle.std.proofs.Common.{◌≡◌, drop, None}
use Rattle.core_ir.specs.Ways.{given_last}
use Rattle.block_lower.proofs.mark.given_last.Given as goal

abbrev pub invariant-loop-pair : goal.invariant-loop-pair
invariant-loop-pair l = given_last (drop l.pair-index l.pairs) l.c l.given ≡ given_last l.pairs l.c None
