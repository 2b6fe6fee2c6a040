use Rattle.run_text.proofs.Prints.{printed_then}
use Rattle.run_text.proofs.printer.Printer.put_qubit.Goals as goal

pub returns : goal.returns
returns g c = printed_then c.put.ensures c.put_number.ensures
