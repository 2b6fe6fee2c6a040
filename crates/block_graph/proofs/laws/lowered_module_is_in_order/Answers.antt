use Rattle.block_graph.proofs.Ordering.{is_in_order}
use Rattle.block_graph.proofs.laws.lowered_module_is_in_order.Goals as goal

pub returns : goal.returns
returns c = is_in_order c.ways_carry.ensures c.same_where_not_differ.ensures
