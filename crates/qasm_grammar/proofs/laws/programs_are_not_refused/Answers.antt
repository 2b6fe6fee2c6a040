use Rattle.qasm_grammar.proofs.Refusals.{not_refused}
use Rattle.qasm_grammar.proofs.laws.programs_are_not_refused.Goals as goal

pub returns : goal.returns
returns c = not_refused
