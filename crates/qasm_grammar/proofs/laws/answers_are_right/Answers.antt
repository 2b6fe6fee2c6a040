use Rattle.qasm_grammar.proofs.Refusals.{answer_right}
use Rattle.qasm_grammar.proofs.laws.answers_are_right.Goals as goal

pub returns : goal.returns
returns c = answer_right
