use Rattle.block_graph.proofs.Typed.{types_rule}
use Rattle.block_graph.proofs.laws.lowered_module_keeps_types.Goals as goal

pub returns : goal.returns
returns c = types_rule c.ways_carry.ensures c.same_where_not_differ.ensures
