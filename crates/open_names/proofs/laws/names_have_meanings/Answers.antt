use Rattle.open_names.proofs.Things.{IsSome-meaning}
use Rattle.open_names.proofs.laws.names_have_meanings.Goals as goal

pub returns : goal.returns
returns g c s n within = IsSome-meaning s n within
