use Rattle.qir_module.specs.Text.{escaped}
use Rattle.run_text.proofs.Prints.{printed_item}
use Rattle.run_text.proofs.printer.Printer.put_quoted.Goals as goal

pub loop-byte-preserved : goal.loop-byte-preserved
loop-byte-preserved g c = printed_item escaped c.args.bytes.now c.loop-byte.byte-index _ c.loop-byte-test.true c.loop-byte.invariant c.put_escaped.ensures
