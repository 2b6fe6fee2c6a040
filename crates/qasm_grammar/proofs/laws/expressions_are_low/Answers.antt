use Rattle.qasm_grammar.proofs.Heights.{expressions_low}
use Rattle.qasm_grammar.proofs.laws.expressions_are_low.Goals as goal

pub returns : goal.returns
returns c = expressions_low
