use Rattle.qir_lexer.proofs.Whole.{answer_right}
use Rattle.qir_lexer.proofs.laws.answers_are_right.Goals as goal

pub returns : goal.returns
returns c = answer_right
