use Rattle.std.proofs.Common.{refl}
use Rattle.scope_env.proofs.Opening.{find-named, find-assign}
use Rattle.scope_env.proofs.laws.new_names_are_found.Goals as goal

pub returns-clause-found : goal.returns-clause-found
returns-clause-found g c x y a scopes = (find-named x a scopes, λ other. rw other refl)

pub returns-clause-kept : goal.returns-clause-kept
returns-clause-kept g c x y a scopes other = find-assign x y a scopes other
