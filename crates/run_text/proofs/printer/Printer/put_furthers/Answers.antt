use Rattle.std.proofs.Common.{get_or, pos, FitsSigned, w64, rules}
use Rattle.run_text.specs.Shown.{further_text}
use Rattle.run_text.proofs.Prints.{printed_item, printed_signed}
use Rattle.run_text.proofs.printer.Printer.put_furthers.Goals as goal

pub loop-angle-preserved : goal.loop-angle-preserved
loop-angle-preserved g c =
    let angles = c.args.angles.now in
    let index = c.loop-angle.angle-index in
    let fits : FitsSigned w64 (get_or angles index (pos 0)) = search rules in
    printed_item further_text angles index (pos 0) c.loop-angle-test.true c.loop-angle.invariant (printed_signed further_text (get_or angles index (pos 0)) fits c.put_further.ensures)
