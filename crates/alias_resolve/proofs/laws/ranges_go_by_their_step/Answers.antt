use Rattle.alias_resolve.proofs.Ranges.{numbers_from-cases}
use Rattle.alias_resolve.proofs.laws.ranges_go_by_their_step.Goals as goal

pub returns : goal.returns
returns c start step stop ne = numbers_from-cases start step stop ne
