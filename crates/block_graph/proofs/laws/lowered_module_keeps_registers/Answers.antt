use Rattle.block_graph.proofs.Reaching.{registers_rule}
use Rattle.block_graph.proofs.laws.lowered_module_keeps_registers.Goals as goal

pub returns : goal.returns
returns c = registers_rule c.ways_carry.ensures c.same_where_not_differ.ensures
