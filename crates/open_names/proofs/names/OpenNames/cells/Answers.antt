use Rattle.open_names.specs.Keeping.{standing_of}
use Rattle.open_names.proofs.Asked.{cells-kept}
use Rattle.open_names.proofs.names.OpenNames.cells.Goals as goal

pub returns : goal.returns
returns g c = cells-kept (standing_of c.self.inside) c.args.self.now c.self.inside.counts c.self.invariant c.self.view_is
