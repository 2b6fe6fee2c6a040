use Rattle.std.proofs.Common.{◌≡◌, drop}
use Rattle.block_lower.specs.Kept.{placed}
use Rattle.block_lower.proofs.kept.place.Given as goal

abbrev pub invariant-loop-k : goal.invariant-loop-k
invariant-loop-k l = placed (drop l.k l.cells) (drop l.k l.operands) l.row ≡ placed l.cells l.operands l.fn.row
