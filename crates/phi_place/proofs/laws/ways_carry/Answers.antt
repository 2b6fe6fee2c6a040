use Rattle.phi_place.proofs.Carries.{ways_carry}
use Rattle.phi_place.proofs.laws.ways_carry.Goals as goal

pub returns : goal.returns
returns c = ways_carry
