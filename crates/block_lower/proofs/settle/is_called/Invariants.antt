use Rattle.std.proofs.Common.{◌≡◌, drop}
use Rattle.qir_module.specs.Numbered.{called_functions, is_among}
use Rattle.block_lower.proofs.settle.is_called.Given as goal

abbrev pub invariant-loop-block : goal.invariant-loop-block
invariant-loop-block l = is_among (called_functions (drop l.block-index l.blocks)) l.f ≡ is_among (called_functions l.blocks) l.f
