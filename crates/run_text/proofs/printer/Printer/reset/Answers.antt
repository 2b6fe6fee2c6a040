use Rattle.run_text.proofs.Prints.{printed_then}
use Rattle.run_text.proofs.printer.Printer.reset.Goals as goal

pub returns : goal.returns
returns g c = printed_then (printed_then c.put.ensures c.put_qubit.ensures) c.put-2.ensures
