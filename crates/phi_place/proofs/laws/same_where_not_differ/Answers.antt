use Rattle.phi_place.proofs.Carries.{same_where_not_differ}
use Rattle.phi_place.proofs.laws.same_where_not_differ.Goals as goal

pub returns : goal.returns
returns c = same_where_not_differ
