use Rattle.std.proofs.Common.{◌≡◌, ◌-◌, length, slice_get, None, Some, is_some, nat_eq, ap, ◌∙◌, reverse, arith}
use Rattle.std.proofs.lemmas.Grind.{common_steps}
use Rattle.std.specs.Map.{lookup}
use Rattle.open_names.specs.declared.names.Inner.{Inner}
use Rattle.open_names.specs.Keeping.{standing_of}
use Rattle.open_names.proofs.Last.{ends, last_place, no_last}
use Rattle.open_names.proofs.Put.{IsKey-of, is_here-of, is_here-last, is_here-top}
use Rattle.open_names.proofs.names.OpenNames.has.Goals as goal

pub returns-in-Some : goal.returns-in-Some
returns-in-Some g c =
    let s = standing_of c.self.inside in
    let items = c.self.inside.inner.items in
    let k = length items - 1 in
    let is_key = IsKey-of s c.args.self.now c.self.view_is c.args.key c.requires in
    let here : c.is_some.result ≡ is_some (lookup (nat_eq c.args.key) c.in-Some.scope.now.names) = grind (arith, common_steps) in
    let found : slice_get items k ≡ Some c.in-Some.scope.now = grind (arith, common_steps) in
    here ∙ is_here-of s c.args.self.now c.self.view_is c.args.key _ (is_here-last s.program s.globals items k c.in-Some.scope.now (ends items k c.in-Some.scope.now (last_place items c.in-Some.scope.now found) found) c.args.key c.self.inside.counts c.self.invariant is_key)

pub returns-in-None : goal.returns-in-None
returns-in-None g c =
    let s = standing_of c.self.inside in
    let items = c.self.inside.inner.items in
    let is_key = IsKey-of s c.args.self.now c.self.view_is c.args.key c.requires in
    let here : c.is_some-in-None.result ≡ is_some (lookup (nat_eq c.args.key) s.globals) = grind (arith, common_steps) in
    let absent : slice_get items (length items - 1) ≡ None = grind (arith, common_steps) in
    here ∙ is_here-of s c.args.self.now c.self.view_is c.args.key _ (is_here-top s c.self.inside.counts c.self.invariant c.args.key is_key (ap (reverse {A = Inner g.row.A.Denot}) (no_last items absent)))
