use Rattle.std.proofs.Common.{◌≡◌, ◌-◌, ◌++◌}
use Rattle.qir_module.specs.Numbered.{called_functions}
use Rattle.block_graph.specs.Lowering.{declared_of}
use Rattle.block_lower.specs.Parts.{declared_from}
use Rattle.block_lower.proofs.settle.declarations.Given as goal

-- the functions so far, and those that are left
abbrev pub invariant-loop-f : goal.invariant-loop-f
invariant-loop-f l = l.functions.items ++ declared_from (called_functions l.blocks) l.f (37 - l.f) ≡ declared_of l.blocks
