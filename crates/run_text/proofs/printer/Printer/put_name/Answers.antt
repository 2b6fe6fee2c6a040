use Rattle.std.proofs.Common.{sym, ap, arith}
use Rattle.std.proofs.lemmas.Option.{slice_get_past}
use Rattle.run_text.specs.Shown.{label_text, name_text}
use Rattle.run_text.proofs.Prints.{printed_none, printed_as}
use Rattle.run_text.proofs.printer.Printer.put_name.Goals as goal

pub returns-else-number-labels : goal.returns-else-number-labels
returns-else-number-labels g c =
    let none = slice_get_past c.args.labels.now c.args.number (omega arith) in
    printed_as (name_text c.args.labels.now c.args.number) (sym (ap label_text none)) (printed_none _)
