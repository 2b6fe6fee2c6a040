use Rattle.std.proofs.Common.{◌≡◌, min, take, slice_index}
use Rattle.qasm_ast.specs.Shallow.{refs_level}
use Rattle.qasm_ast.proofs.level.level_of_operands.Given as goal

abbrev pub invariant-loop-operand : goal.invariant-loop-operand
invariant-loop-operand l = l.most ≡ min 65 (refs_level (slice_index l.levels) (take l.operand-index l.operand-items))
