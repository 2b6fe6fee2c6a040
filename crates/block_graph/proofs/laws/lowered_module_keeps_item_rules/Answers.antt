use Rattle.block_graph.proofs.Items.{keeps_items}
use Rattle.block_graph.proofs.laws.lowered_module_keeps_item_rules.Goals as goal

pub returns : goal.returns
returns c = keeps_items c.statements_unfold.ensures c.ways_carry.ensures c.same_where_not_differ.ensures
