use Rattle.std.proofs.Common.{◌≡◌, length, rules}
use Rattle.std.specs.Prelude.{IsTrue}
use Rattle.gate_cases.proofs.Served.{names_told, callables_told, insides_told}
use Rattle.gate_cases.proofs.env.Env.serves.Goals as goal

pub returns-then-call-len-clause-serves : goal.returns-then-call-len-clause-serves
returns-then-call-len-clause-serves c = λ is.
    let fits : IsTrue c.fits.result = search rules in
    let p = c.args.program.now in
    let entries = c.args.self.now.entries.items in
    let named : length entries ≡ length p.names = c.fits.ensures.entries fits in
    record {
      has_names = names_told p entries named;
      has_callables = callables_told p entries named (c.fits.ensures.callables fits);
      has_inside = insides_told p entries c.args.self.now.orders.items named (c.fits.ensures.orders fits) (c.fits.ensures.callables fits);
      has_parts = c.serves_call.ensures.parts is;
    }
