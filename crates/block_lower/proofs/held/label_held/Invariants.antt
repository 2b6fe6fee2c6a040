use Rattle.std.proofs.Common.{All, take}
use Rattle.qir_module.specs.Module.{IsByte}
use Rattle.block_lower.proofs.held.label_held.Given as goal

abbrev pub invariant-loop-byte : goal.invariant-loop-byte
invariant-loop-byte l = All IsByte (take l.byte-index l.byte-items)
