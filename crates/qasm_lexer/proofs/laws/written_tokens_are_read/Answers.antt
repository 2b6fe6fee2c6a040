use Rattle.qasm_lexer.proofs.Written.{written_read}
use Rattle.qasm_lexer.proofs.laws.written_tokens_are_read.Goals as goal

pub returns : goal.returns
returns c = written_read
