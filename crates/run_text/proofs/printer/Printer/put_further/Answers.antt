use Rattle.std.specs.Fmt.{signed_decimal}
use Rattle.run_text.proofs.Prints.{printed_then, printed_signed}
use Rattle.run_text.proofs.printer.Printer.put_further.Goals as goal

pub returns : goal.returns
returns g c = printed_then c.put.ensures (printed_signed signed_decimal c.args.angle c.ranges.angle c.put_signed.ensures)
