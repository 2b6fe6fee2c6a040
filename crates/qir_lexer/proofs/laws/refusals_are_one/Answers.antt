use Rattle.qir_lexer.proofs.Whole.{one_refusal}
use Rattle.qir_lexer.proofs.laws.refusals_are_one.Goals as goal

pub returns : goal.returns
returns c = one_refusal
