use Rattle.std.proofs.Common.{slice_index}
use Rattle.qasm_ast.specs.Shallow.{id_level}
use Rattle.qasm_ast.proofs.Greatest.{one_more}
use Rattle.qasm_ast.proofs.level.level_of_ids.Goals as goal

pub loop-id-preserved : goal.loop-id-preserved
loop-id-preserved c = one_more (id_level (slice_index c.args.levels.now)) _ _ _ _ _ _ c.loop-id-test.true c.loop-id.invariant c.level_at.ensures c.max-most.ensures
