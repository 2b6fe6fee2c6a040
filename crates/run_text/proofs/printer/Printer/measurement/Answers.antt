use Rattle.std.proofs.Common.{◌∙◌}
use Rattle.run_text.specs.Shown.{bit_text}
use Rattle.run_text.proofs.Prints.{printed_then, printed_as}
use Rattle.run_text.proofs.printer.Printer.measurement.Goals as goal

pub returns : goal.returns
returns g c =
    let bit = printed_as (bit_text c.args.outcome) (c.as_bytes.ensures.value ∙ c.bit_digit.ensures) c.put-3.ensures in
    printed_then (printed_then (printed_then (printed_then c.put.ensures c.put_qubit.ensures) c.put-2.ensures) bit) c.put-4.ensures
