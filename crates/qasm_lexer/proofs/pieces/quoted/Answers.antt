use Rattle.qasm_lexer.proofs.PieceFinds.{text_open, text_found, text_too_long, bits_of, bits_back}
use Rattle.std.proofs.lemmas.Bool.{false≢true}
use Rattle.std.proofs.Common.{sym, ◌∙◌}
use Rattle.qasm_lexer.proofs.pieces.quoted.Goals as goal
use Rattle.qasm_lexer.proofs.pieces.quoted.Goals.{else-quote-eq34-via-then-quote-eq34+else-has_too_many_bits, else-quote-eq34-via-else-quote-eq34}

pub returns-in_default : goal.returns-in_default
returns-in_default c = λ version. text_open c.requires.quotes c.requires.cut c.skip_passing-close.ensures version c.in_default.ensures

pub returns-then-has_too_many_bits : goal.returns-then-has_too_many_bits
returns-then-has_too_many_bits c = λ version.
    text_too_long c.requires.quotes c.requires.cut c.skip_passing-close.ensures c.in-Some.ensures version c.if-quote-eq34.true
    (bits_of c.args.quote c.skip_passing-close.ensures _ c.front_of.ensures.whole (c.has_too_many_bits.ensures.0 c.if-has_too_many_bits.true))

pub returns : goal.returns
returns c = λ version.
    text_found c.requires.quotes c.requires.cut c.skip_passing-close.ensures c.in-Some.ensures version (λ q bits. elim c.else-quote-eq34.branch [
      | else-quote-eq34-via-then-quote-eq34+else-has_too_many_bits w ↦
          false≢true (sym w.if-has_too_many_bits.false ∙ w.has_too_many_bits.ensures.1 (bits_back c.args.quote c.skip_passing-close.ensures _ w.front_of.ensures.whole bits))
      | else-quote-eq34-via-else-quote-eq34 w ↦ w.if-quote-eq34.false q
    ])
