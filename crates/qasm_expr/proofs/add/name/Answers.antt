use Rattle.std.proofs.Common.{refl, sym, ◌∙◌, arith}
use Rattle.std.proofs.lemmas.Option.{slice_get-get_or}
use Rattle.qasm_expr.proofs.Literals.{name_found, is_name-true}
use Rattle.qasm_expr.proofs.add.name.Goals as goal

pub returns-then-is_name-clause-gives : goal.returns-then-is_name-clause-gives
returns-then-is_name-clause-gives c =
    let found = slice_get-get_or c.args.tokens.now c.args.at _ c.if-at-tokens.true in
    let is = sym c.is_name.ensures ∙ c.if-is_name.true in
    let spans = c.requires.cut.spans c.args.at _ found in
    (_, (refl, spans.0, spans.1, c.requires.cut.name_sizes c.args.at _ found (is_name-true c.args.text.now _ is)), omega arith, omega arith, name_found c.args.text.now c.args.tokens.now c.args.at _ _ c.if-at-tokens.true refl is)
