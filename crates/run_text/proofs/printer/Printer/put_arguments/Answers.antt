use Rattle.std.proofs.Common.{◌≡◌, ap, sym, [], ℤ, List, FitsSigned, w64, rules}
use Rattle.std.specs.Fmt.{signed_decimal}
use Rattle.run_text.specs.Shown.{arguments_text}
use Rattle.run_text.proofs.Gates.{no_arguments_text}
use Rattle.run_text.proofs.Prints.{printed_none, printed_then, printed_as, printed_signed}
use Rattle.run_text.proofs.printer.Printer.put_arguments.Goals as goal

pub returns-in-None : goal.returns-in-None
returns-in-None g c = printed_as (arguments_text c.args.angles.now) (no_arguments_text c.args.angles.now c.in-None.ensures.cases) (printed_none _)

pub returns-in-Some : goal.returns-in-Some
returns-in-Some g c =
    let fits : FitsSigned w64 c.in-Some.first.now = search rules in
    let first = printed_signed signed_decimal c.in-Some.first.now fits c.put_signed.ensures in
    let all = printed_then (printed_then (printed_then c.put.ensures first) c.put_furthers.ensures) c.put-in-Some.ensures in
    printed_as (arguments_text c.args.angles.now) (sym (ap arguments_text c.in-Some.ensures.cases.0)) all
