use Rattle.std.proofs.Common.{length, ap, arith}
use Rattle.std.proofs.lemmas.List.{length-drop}
use Rattle.qir_lexer.proofs.Finding.{rest_is, flag_text_found}
use Rattle.qir_lexer.proofs.piece.at_bang.Goals as goal

pub returns-in-Some-quoted_size : goal.returns-in-Some-quoted_size
returns-in-Some-quoted_size c = flag_text_found c.args.text.now _ c.in-Some-quoted_size.size (rest_is 1 c.args.text.now) c.in_default.ensures c.in_default-word_size.ensures.count c.in-Some-quoted_size.ensures.count
    (omega (arith, c.in-Some-quoted_size.ensures.inside, ap length (rest_is 1 c.args.text.now), length-drop 1 c.args.text.now))
