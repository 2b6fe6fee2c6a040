use Rattle.std.proofs.Common.{◌≡◌, nat_eq, None, arith}
use Rattle.indexmap.specs.IndexMap.{get}
use Rattle.scope_env.proofs.Entries.{ReadAlike-insert, reverse-insert}
use Rattle.scope_env.proofs.scope.Scope.declare.Goals as goal

pub invariant_of-self : goal.invariant_of-self
invariant_of-self g c =
    let absent : get nat_eq c.self.inside.names c.args.name ≡ None = grind arith in
    ReadAlike-insert c.self.inside.names c.insert.new.self c.args.name c.args.value absent c.insert.result c.self.invariant c.insert.ensures.entries c.insert.ensures.err

pub returns-in-Ok-clause-ok : goal.returns-in-Ok-clause-ok
returns-in-Ok-clause-ok g c =
    let absent : get nat_eq c.self.inside.names c.args.name ≡ None = grind arith in
    rw (← c.self.view_is) (reverse-insert c.self.inside.names c.insert.new.self c.args.name c.args.value absent c.in-Ok.ensures.entries)
