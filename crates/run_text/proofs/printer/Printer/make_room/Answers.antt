use Rattle.run_text.proofs.Prints.{printed_none}
use Rattle.run_text.proofs.printer.Printer.make_room.Goals as goal

pub returns-else-is_full-clause-prints : goal.returns-else-is_full-clause-prints
returns-else-is_full-clause-prints g c = printed_none _
