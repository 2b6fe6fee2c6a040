use Rattle.qir_lexer.proofs.Lexed.{lexed_right}
use Rattle.qir_lexer.proofs.laws.tokens_are_right.Goals as goal

pub returns : goal.returns
returns c = lexed_right
