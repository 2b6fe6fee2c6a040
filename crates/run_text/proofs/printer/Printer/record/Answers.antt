use Rattle.std.proofs.Common.{◌∙◌, sym, ap, FitsSigned, w64, rules}
use Rattle.std.specs.Fmt.{signed_decimal}
use Rattle.run_text.specs.Shown.{bit_text, record_line}
use Rattle.run_text.proofs.Prints.{printed_then, printed_as, printed_signed}
use Rattle.run_text.proofs.printer.Printer.record.Goals as goal

pub returns-in-Array : goal.returns-in-Array
returns-in-Array g c =
    let labels = c.args.labels.now in
    printed_as (record_line labels c.args.record.now) (sym (ap (record_line labels) c.in-Array.is)) (printed_then (printed_then c.put_start.ensures c.put_number.ensures) c.put.ensures)

pub returns-in-Bool : goal.returns-in-Bool
returns-in-Bool g c =
    let labels = c.args.labels.now in
    let bit = printed_as (bit_text c.in-Bool.value) (c.as_bytes.ensures.value ∙ c.bit_digit.ensures) c.put-in-Bool.ensures in
    printed_as (record_line labels c.args.record.now) (sym (ap (record_line labels) c.in-Bool.is)) (printed_then (printed_then c.put_start-in-Bool.ensures bit) c.put-in-Bool-2.ensures)

pub returns-in-Int : goal.returns-in-Int
returns-in-Int g c =
    let labels = c.args.labels.now in
    let fits : FitsSigned w64 c.in-Int.value = search rules in
    let number = printed_signed signed_decimal c.in-Int.value fits c.put_signed.ensures in
    printed_as (record_line labels c.args.record.now) (sym (ap (record_line labels) c.in-Int.is)) (printed_then (printed_then c.put_start-in-Int.ensures number) c.put-in-Int.ensures)
