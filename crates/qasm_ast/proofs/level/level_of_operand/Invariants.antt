use Rattle.std.proofs.Common.{◌≡◌, min, take, slice_index}
use Rattle.qasm_ast.specs.Level.{greatest}
use Rattle.qasm_ast.specs.Shallow.{index_level}
use Rattle.qasm_ast.proofs.level.level_of_operand.Given as goal

abbrev pub invariant-loop-index : goal.invariant-loop-index
invariant-loop-index l = l.most ≡ min 65 (greatest (index_level (slice_index l.levels)) (take l.index-index l.index-items))
