use Rattle.std.proofs.Common.{Some, sym, ap, ◌∙◌}
use Rattle.gate_cases.specs.Told.{callable_told}
use Rattle.gate_cases.proofs.Found.{within, found_entry}
use Rattle.gate_cases.proofs.env.EnvGateEnv.callable.Goals as goal

pub entry-requires : goal.entry-requires
entry-requires c = within callable_told c.args.name c.args.self.now.entries.items c.requires

pub returns : goal.returns
returns c =
    found_entry callable_told c.args.name c.args.self.now.entries.items c.entry.result.now c.entry.ensures ∙ ap Some (sym c.called.ensures)
