use Rattle.run_text.proofs.Prints.{printed_byte}
use Rattle.run_text.proofs.printer.Printer.put.Goals as goal

pub loop-byte-preserved : goal.loop-byte-preserved
loop-byte-preserved g c = printed_byte c.args.text.now c.loop-byte.byte-index _ c.loop-byte-test.true c.loop-byte.invariant c.put_byte.ensures
