use Rattle.std.proofs.Common.{◌<◌, length, refl, sym, ◌∙◌, arith}
use Rattle.std.proofs.lemmas.Option.{slice_get-get_or}
use Rattle.qasm_expr.proofs.Literals.{literal_found, plain_read, text_read}
use Rattle.qasm_expr.proofs.add.literal.Goals as goal

pub returns-in-Some-clause-found : goal.returns-in-Some-clause-found
returns-in-Some-clause-found c =
    let lt : c.args.at < length c.args.tokens.now = omega arith in
    literal_found c.args.text.now c.args.tokens.now c.args.at _ _ _ lt refl
    (text_read c.args.text.now _ _ c.in-Some.found (sym c.is_text.ensures ∙ c.if-is_text.true) (sym c.in_ok-bits.ensures.value ∙ c.in-Some.is)
    (c.requires.cut.bits_sizes c.args.at _ c.in-Some.found (slice_get-get_or c.args.tokens.now c.args.at _ lt) (sym c.in_ok-bits.ensures.value ∙ c.in-Some.is)))

pub returns-in-Some-plain_literal-clause-found : goal.returns-in-Some-plain_literal-clause-found
returns-in-Some-plain_literal-clause-found c =
    literal_found c.args.text.now c.args.tokens.now c.args.at _ _ _ (omega arith) refl (plain_read c.args.text.now _ _ c.in-Some-plain_literal.kind (sym c.in-Some-plain_literal.ensures))
