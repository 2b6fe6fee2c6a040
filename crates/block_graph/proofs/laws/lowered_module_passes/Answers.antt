use Rattle.block_graph.proofs.Passed.{lowered_passes}
use Rattle.block_graph.proofs.laws.lowered_module_passes.Goals as goal

pub returns : goal.returns
returns c = lowered_passes c.statements_unfold.ensures c.ways_carry.ensures c.same_where_not_differ.ensures
