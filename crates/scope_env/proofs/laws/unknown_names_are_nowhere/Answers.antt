use Rattle.scope_env.proofs.Found.{is_none-find}
use Rattle.scope_env.proofs.laws.unknown_names_are_nowhere.Goals as goal

pub returns : goal.returns
returns g c name scopes = is_none-find name scopes
