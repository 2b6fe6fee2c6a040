use Rattle.qasm_lexer.proofs.OneRun.{only_answer}
use Rattle.qasm_lexer.proofs.lexer.lex.Goals as goal

pub returns-clause-only : goal.returns-clause-only
returns-clause-only c = only_answer _ _ c.read.ensures.found
