use Rattle.std.proofs.Common.{◌≡◌, take}
use Rattle.block_lower.proofs.settle.copy_phis.Given as goal

abbrev pub invariant-loop-phi : goal.invariant-loop-phi
invariant-loop-phi l = l.items.items ≡ take l.phi-index l.phis
