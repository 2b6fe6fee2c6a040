use Rattle.qir_lexer.proofs.Lexed.{text_right}
use Rattle.qir_lexer.proofs.laws.texts_are_answered.Goals as goal

pub returns : goal.returns
returns c = text_right
