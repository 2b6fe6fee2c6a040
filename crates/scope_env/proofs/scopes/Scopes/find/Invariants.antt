use Rattle.std.proofs.Common.{◌≡◌, reverse}
use Rattle.scope_env.specs.Scopes.{find}
use Rattle.scope_env.proofs.scopes.Scopes.find.Given as goal

-- the scopes that are left have what the name means
abbrev pub invariant-loop-scope : goal.invariant-loop-scope
invariant-loop-scope g l = find l.name l.self ≡ find l.name (reverse l.scope-iterator.iter.rest.now)
