use Rattle.scope_env.proofs.Mapped.{find-map_values}
use Rattle.scope_env.proofs.laws.values_are_mapped.Goals as goal

pub returns : goal.returns
returns g c f name scopes = find-map_values f name scopes
