use Rattle.std.proofs.Common.{slice_index}
use Rattle.qasm_ast.specs.Shallow.{param_level}
use Rattle.qasm_ast.proofs.Greatest.{one_more}
use Rattle.qasm_ast.proofs.level.level_of_params.Goals as goal

pub loop-param-preserved : goal.loop-param-preserved
loop-param-preserved c = one_more (param_level (slice_index c.args.levels.now)) _ _ _ _ _ _ c.loop-param-test.true c.loop-param.invariant c.level_of_type.ensures c.max-most.ensures
