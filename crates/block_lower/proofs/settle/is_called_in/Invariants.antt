use Rattle.std.proofs.Common.{◌≡◌, drop}
use Rattle.std.specs.List.{flat_map}
use Rattle.qir_module.specs.Numbered.{functions_of, is_among}
use Rattle.block_lower.proofs.settle.is_called_in.Given as goal

abbrev pub invariant-loop-instr : goal.invariant-loop-instr
invariant-loop-instr l = is_among (flat_map functions_of (drop l.instr-index l.body)) l.f ≡ is_among (flat_map functions_of l.body) l.f
