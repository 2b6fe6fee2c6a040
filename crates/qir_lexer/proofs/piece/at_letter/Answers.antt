use Rattle.std.proofs.Common.{length, ap, arith}
use Rattle.std.proofs.lemmas.List.{length-drop}
use Rattle.qir_lexer.proofs.Finding.{rest_is, bytes_found}
use Rattle.qir_lexer.proofs.piece.at_letter.Goals as goal

pub returns-in-Some-quoted_size : goal.returns-in-Some-quoted_size
returns-in-Some-quoted_size c = bytes_found c.args.text.now _ c.args.first c.in-Some-quoted_size.size _ c.if-first-eq98.false c.if-first-eq99.true (rest_is 1 c.args.text.now) c.in-Some-quoted_size.ensures.count
    (omega (arith, c.in-Some-quoted_size.ensures.inside, ap length (rest_is 1 c.args.text.now), length-drop 1 c.args.text.now))
