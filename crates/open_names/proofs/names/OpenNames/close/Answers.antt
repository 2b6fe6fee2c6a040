use Rattle.std.proofs.Common.{◌≡◌, [], ◌∷◌, ◌++◌, reverse, ap, arith}
use Rattle.std.proofs.lemmas.Grind.{common_steps}
use Rattle.open_names.specs.declared.names.Inner.{Inner}
use Rattle.open_names.specs.Keeping.{standing_of}
use Rattle.open_names.proofs.Closed.{IsKept-rest, Stands-rest, is_top-only}
use Rattle.open_names.proofs.names.OpenNames.close.Goals as goal

pub invariant_of-self : goal.invariant_of-self
invariant_of-self g c =
    let s = standing_of c.self.inside in
    let last : c.self.inside.inner.items ≡ c.pop.new.self.items ++ c.in-Some.scope ∷ [] = c.in-Some.ensures.items in
    IsKept-rest s.program s.globals c.self.inside.inner.items c.pop.new.self.items c.in-Some.scope last c.self.inside.counts c.self.invariant

pub returns-in-Some : goal.returns-in-Some
returns-in-Some g c =
    let s = standing_of c.self.inside in
    let last : c.self.inside.inner.items ≡ c.pop.new.self.items ++ c.in-Some.scope ∷ [] = c.in-Some.ensures.items in
    Stands-rest s.program s.globals c.self.inside.inner.items c.pop.new.self.items c.in-Some.scope last c.args.self.now c.self.view_is

pub returns-in_default : goal.returns-in_default
returns-in_default g c =
    let none : c.self.inside.inner.items ≡ [] = grind (arith, common_steps) in
    absurd (is_top-only (standing_of c.self.inside) c.args.self.now c.self.view_is (ap (reverse {A = Inner g.row.A.Denot}) none) c.requires)
