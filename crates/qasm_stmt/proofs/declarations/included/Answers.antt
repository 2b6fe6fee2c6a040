use Rattle.std.proofs.Common.{◌<◌, length, sym, ◌∙◌, arith}
use Rattle.qasm_stmt.proofs.Texts.{text_taken}
use Rattle.qasm_stmt.proofs.declarations.included.Goals as goal

pub returns-in-Text-clause-gives : goal.returns-in-Text-clause-gives
returns-in-Text-clause-gives c =
    let lt : c.args.from < length c.args.tokens.now = omega arith in
    (_, tt, omega arith, omega arith, text_taken c.args.text.now c.args.tokens.now c.args.from _ lt c.in-Text.is (sym c.is_stdgates.ensures ∙ c.if-is_stdgates.true))
