use Rattle.qir_lexer.proofs.Whole.{not_refused}
use Rattle.qir_lexer.proofs.laws.modules_are_not_refused.Goals as goal

pub returns : goal.returns
returns c = not_refused
