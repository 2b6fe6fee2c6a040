use Rattle.block_graph.proofs.Bounding.{is_within}
use Rattle.block_graph.proofs.laws.lowered_module_stays_within.Goals as goal

pub returns : goal.returns
returns c = is_within c.ways_carry.ensures c.same_where_not_differ.ensures
