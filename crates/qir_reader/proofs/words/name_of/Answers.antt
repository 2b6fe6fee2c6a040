use Rattle.std.proofs.Common.{◌∙◌, sym, ap}
use Rattle.std.specs.Str.{bytes_eq}
use Rattle.qir_module.specs.Words.{texts, OtherText}
use Rattle.qir_reader.specs.Seen.{text_in}
use Rattle.qir_reader.proofs.Tables.{looked_here, looked_on}
use Rattle.qir_reader.proofs.words.name_of.Goals as goal

pub returns-then-eq : goal.returns-then-eq
returns-then-eq c =
    let here = ap (λ xs. bytes_eq xs c.args.body.now) (sym c.as_bytes.ensures.value) ∙ sym c.eq.ensures ∙ c.if-eq.true in
    sym (c.loop-place.invariant ∙ looked_here OtherText texts c.loop-place.place c.args.body.now (text_in c.text_row-quoted.result) c.text_row-quoted.ensures here)

pub loop-place-preserved : goal.loop-place-preserved
loop-place-preserved c =
    let here = ap (λ xs. bytes_eq xs c.args.body.now) (sym c.as_bytes.ensures.value) ∙ sym c.eq.ensures ∙ c.if-eq.false in
    c.loop-place.invariant ∙ looked_on OtherText texts c.loop-place.place c.args.body.now (text_in c.text_row-quoted.result) c.text_row-quoted.ensures here
