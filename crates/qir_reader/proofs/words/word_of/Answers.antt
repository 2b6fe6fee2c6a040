use Rattle.std.proofs.Common.{◌∙◌, sym, ap}
use Rattle.std.specs.Str.{bytes_eq}
use Rattle.qir_module.specs.Words.{words, Other}
use Rattle.qir_reader.specs.Seen.{word_in}
use Rattle.qir_reader.proofs.Tables.{looked_here, looked_on}
use Rattle.qir_reader.proofs.words.word_of.Goals as goal

pub returns-then-eq : goal.returns-then-eq
returns-then-eq c =
    let here = ap (λ xs. bytes_eq xs c.args.spelling.now) (sym c.as_bytes.ensures.value) ∙ sym c.eq.ensures ∙ c.if-eq.true in
    sym (c.loop-place.invariant ∙ looked_here Other words c.loop-place.place c.args.spelling.now (word_in c.word_row-reserved.result) c.word_row-reserved.ensures here)

pub loop-place-preserved : goal.loop-place-preserved
loop-place-preserved c =
    let here = ap (λ xs. bytes_eq xs c.args.spelling.now) (sym c.as_bytes.ensures.value) ∙ sym c.eq.ensures ∙ c.if-eq.false in
    c.loop-place.invariant ∙ looked_on Other words c.loop-place.place c.args.spelling.now (word_in c.word_row-reserved.result) c.word_row-reserved.ensures here
