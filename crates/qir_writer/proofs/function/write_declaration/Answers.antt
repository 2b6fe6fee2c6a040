use Rattle.std.proofs.Common.{◌++◌, ap}
use Rattle.std.proofs.lemmas.Result.{IfOk-equal}
use Rattle.qir_writer.proofs.Texts.{row_line_of}
use Rattle.qir_writer.proofs.function.write_declaration.Goals as goal

pub returns-in-Some : goal.returns-in-Some
returns-in-Some c =
    let row = c.in-Some.ensures in
    IfOk-equal c.write_row.result _ _ _ c.write_row.ensures (ap (λ t. c.args.out.now.items ++ t) (row_line_of c.in-Some.row _ row.name row.takes row.gives row.irreversible))
