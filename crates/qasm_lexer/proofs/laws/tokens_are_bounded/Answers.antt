use Rattle.qasm_lexer.proofs.Sizes.{tokens_bounded}
use Rattle.qasm_lexer.proofs.laws.tokens_are_bounded.Goals as goal

pub returns : goal.returns
returns c = tokens_bounded
