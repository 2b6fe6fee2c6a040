use Rattle.std.proofs.Common.{Some, sym, ap, ◌∙◌}
use Rattle.qir_lexer.specs.Seen.{kind_of}
use Rattle.qir_module.specs.Grammar.{reserved_at}
use Rattle.qir_reader.proofs.Left.{first_seen}
use Rattle.qir_reader.proofs.cursor.Cursor.next_word.Goals as goal

pub returns : goal.returns
returns c =
    let next = c.in_ok-next.next in
    let seen = first_seen reserved_at c.args.self.now next c.in_ok-next.ensures in
    let is = ap (λ kind. reserved_at (kind_of next.spelling.now kind)) c.in-Word.is in
    ap Some c.word_of.ensures ∙ sym (seen ∙ is)
