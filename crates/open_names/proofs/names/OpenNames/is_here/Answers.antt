use Rattle.std.proofs.Common.{subst}
use Rattle.open_names.specs.Texts.{texts}
use Rattle.open_names.specs.Standing.{Standing}
use Rattle.open_names.specs.Keys.{IsKey}
use Rattle.open_names.specs.Keeping.{standing_of}
use Rattle.open_names.proofs.Asked.{text-name, key_of}
use Rattle.open_names.proofs.names.OpenNames.is_here.Goals as goal

pub has-requires : goal.has-requires
has-requires g c =
    subst (λ (s : Standing g.row.A.Denot). IsKey (texts s.program) c.args.name) c.self.view_is (key_of (standing_of c.self.inside) c.args.self.now c.self.inside.counts c.self.invariant c.self.view_is c.args.name c.requires)

pub returns : goal.returns
returns g c = rw (text-name c.args.self.now.program c.args.name c.requires) at c.has.ensures
