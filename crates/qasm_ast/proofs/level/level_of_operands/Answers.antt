use Rattle.std.proofs.Common.{slice_index}
use Rattle.qasm_ast.specs.Shallow.{ref_level}
use Rattle.qasm_ast.proofs.Greatest.{one_read}
use Rattle.qasm_ast.proofs.level.level_of_operands.Goals as goal

pub loop-operand-preserved : goal.loop-operand-preserved
loop-operand-preserved c = one_read (ref_level (slice_index c.args.levels.now)) _ _ _ _ _ _ c.operand-item.is c.loop-operand-test.true c.loop-operand.invariant c.level_of_operand.ensures c.max-most.ensures
