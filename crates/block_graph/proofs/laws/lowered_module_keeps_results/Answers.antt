use Rattle.block_graph.proofs.Carrying.{results_rule}
use Rattle.block_graph.proofs.laws.lowered_module_keeps_results.Goals as goal

pub returns : goal.returns
returns c = results_rule c.ways_carry.ensures c.same_where_not_differ.ensures
