use Rattle.source_core.proofs.SameWalk.{walks_alike}
use Rattle.source_core.proofs.laws.elaboration_follows_the_walk.Goals as goal

pub returns : goal.returns
returns c = walks_alike
