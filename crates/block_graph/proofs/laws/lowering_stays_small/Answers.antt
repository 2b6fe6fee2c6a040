use Rattle.block_graph.proofs.Limiting.{work_is_small}
use Rattle.block_graph.proofs.laws.lowering_stays_small.Goals as goal

pub returns : goal.returns
returns c = work_is_small c.ways_carry.ensures c.same_where_not_differ.ensures
