use Rattle.block_lower.proofs.Shortening.{few_below, rises_below}
use Rattle.block_lower.proofs.joins.cells_below.Goals as goal

pub returns-clause-ascends : goal.returns-clause-ascends
returns-clause-ascends c = rises_below c.args.n c.args.cells.now c.in_ok-below.below.items c.in_ok-below.ensures c.requires

pub returns-clause-few : goal.returns-clause-few
returns-clause-few c = few_below c.args.n c.args.cells.now c.in_ok-below.below.items c.in_ok-below.ensures (rises_below c.args.n c.args.cells.now c.in_ok-below.below.items c.in_ok-below.ensures c.requires)
