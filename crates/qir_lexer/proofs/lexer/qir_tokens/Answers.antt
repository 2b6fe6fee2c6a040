use Rattle.qir_lexer.proofs.Lexed.{no_other}
use Rattle.qir_lexer.proofs.lexer.qir_tokens.Goals as goal

pub returns : goal.returns
returns c = record { found = c.read.ensures; only = λ reading t. no_other c.args.text.now c.read.result c.read.ensures reading t }
