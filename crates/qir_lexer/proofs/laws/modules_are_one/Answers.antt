use Rattle.qir_lexer.proofs.Whole.{one_module}
use Rattle.qir_lexer.proofs.laws.modules_are_one.Goals as goal

pub returns : goal.returns
returns c = one_module
