use Rattle.open_names.specs.Keeping.{standing_of}
use Rattle.open_names.proofs.Asked.{qubits-kept}
use Rattle.open_names.proofs.names.OpenNames.qubits.Goals as goal

pub returns : goal.returns
returns g c = qubits-kept (standing_of c.self.inside) c.args.self.now c.self.inside.counts c.self.invariant c.self.view_is
