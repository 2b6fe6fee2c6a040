use Rattle.run_text.proofs.Prints.{printed_then, printed_as}
use Rattle.run_text.proofs.printer.Printer.put_start.Goals as goal

pub returns : goal.returns
returns g c =
    let word = printed_as c.args.word.now c.as_bytes.ensures.value c.put.ensures in
    printed_then (printed_then (printed_then word c.put-2.ensures) c.put_name.ensures) c.put-3.ensures
