use Rattle.block_graph.proofs.Sizing.{stores_assigns}
use Rattle.block_graph.proofs.laws.stores_are_assigned.Goals as goal

pub returns : goal.returns
returns c = stores_assigns
