use Rattle.block_graph.proofs.Whole.{same_run}
use Rattle.block_graph.proofs.laws.lowered_module_runs_as_its_core.Goals as goal

pub returns : goal.returns
returns c = same_run c.straight_runs.ensures c.ways_carry.ensures c.same_where_not_differ.ensures
