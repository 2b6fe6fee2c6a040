use Rattle.std.proofs.Common.{◌≡◌, ◌∙◌, sym, ap, Some, length}
use Rattle.run_text.specs.Shown.{label_text}
use Rattle.run_text.proofs.Labels.{label_text_of, no_label_text}
use Rattle.run_text.proofs.Prints.{printed_none, printed_as}
use Rattle.run_text.proofs.printer.Printer.put_label.Goals as goal

pub returns-in-None : goal.returns-in-None
returns-in-None g c =
    let bytes = sym c.label.view_is ∙ sym c.as_slice.ensures.value in
    printed_as (label_text (Some c.args.label.now)) (no_label_text c.args.label.now (ap length bytes ∙ c.in-None.ensures.cases)) (printed_none _)

pub returns-in-Some : goal.returns-in-Some
returns-in-Some g c =
    let bytes = sym c.label.view_is ∙ sym c.as_slice.ensures.value in
    printed_as (label_text (Some c.args.label.now)) (label_text_of c.args.label.now c.in-Some.text.now _ (bytes ∙ c.in-Some.ensures.cases.0)) c.put_quoted.ensures
