use Rattle.scope_env.proofs.Opening.{find-map_scopes, close-map_scopes}
use Rattle.scope_env.proofs.laws.things_are_mapped.Goals as goal

pub returns : goal.returns
returns g c f x scopes = (find-map_scopes f x scopes, close-map_scopes f scopes)
