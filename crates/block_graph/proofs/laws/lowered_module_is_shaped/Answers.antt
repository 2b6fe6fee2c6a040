use Rattle.block_graph.proofs.Shaped.{is_shaped}
use Rattle.block_graph.proofs.laws.lowered_module_is_shaped.Goals as goal

pub returns : goal.returns
returns c = is_shaped c.ways_carry.ensures c.same_where_not_differ.ensures
