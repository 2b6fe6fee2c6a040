use Rattle.std.proofs.Common.{slice_index}
use Rattle.qasm_ast.specs.Shallow.{index_level}
use Rattle.qasm_ast.proofs.Greatest.{one_read}
use Rattle.qasm_ast.proofs.level.level_of_operand.Goals as goal

pub loop-index-preserved : goal.loop-index-preserved
loop-index-preserved c = one_read (index_level (slice_index c.args.levels.now)) _ _ _ _ _ _ c.index-item.is c.loop-index-test.true c.loop-index.invariant c.level_of_index.ensures c.max-most.ensures
