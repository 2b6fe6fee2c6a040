use Rattle.std.proofs.Common.{Some, sym, ap, ◌∙◌}
use Rattle.qir_lexer.specs.Seen.{kind_of}
use Rattle.qir_module.specs.Grammar.{text_at}
use Rattle.qir_module.specs.Words.{text_of}
use Rattle.qir_reader.proofs.Left.{first_seen}
use Rattle.qir_reader.proofs.cursor.Cursor.next_text.Goals as goal

pub returns : goal.returns
returns c =
    let next = c.in_ok-next.next in
    let seen = first_seen text_at c.args.self.now next c.in_ok-next.ensures in
    let is = ap (λ kind. text_at (kind_of next.spelling.now kind)) c.in-Text.is in
    ap Some (c.text_of.ensures ∙ ap text_of c.between.ensures) ∙ sym (seen ∙ is)
