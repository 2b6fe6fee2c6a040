use Rattle.source_core.proofs.Joined.{joined_runs}
use Rattle.source_core.proofs.laws.joined_bodies_run_in_order.Goals as goal

pub returns : goal.returns
returns c = joined_runs
