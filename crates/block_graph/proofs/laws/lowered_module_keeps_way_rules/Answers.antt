use Rattle.block_graph.proofs.Preceding.{keeps_ways}
use Rattle.block_graph.proofs.laws.lowered_module_keeps_way_rules.Goals as goal

pub returns : goal.returns
returns c = keeps_ways c.ways_carry.ensures c.same_where_not_differ.ensures
