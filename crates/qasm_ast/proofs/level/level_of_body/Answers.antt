use Rattle.std.proofs.Common.{slice_index}
use Rattle.qasm_ast.proofs.Greatest.{one_more}
use Rattle.qasm_ast.proofs.level.level_of_body.Goals as goal

pub loop-id-preserved : goal.loop-id-preserved
loop-id-preserved c = one_more (λ id. slice_index c.args.levels.now id.0) _ _ _ _ _ _ c.loop-id-test.true c.loop-id.invariant c.level_at_stmt.ensures c.max-most.ensures
