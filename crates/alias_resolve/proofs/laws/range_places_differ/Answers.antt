use Rattle.alias_resolve.proofs.Counting.{differ}
use Rattle.alias_resolve.proofs.laws.range_places_differ.Goals as goal

pub returns : goal.returns
returns c = differ
