use Rattle.qasm_grammar.proofs.Refusals.{one_refusal}
use Rattle.qasm_grammar.proofs.laws.refusals_are_one.Goals as goal

pub returns : goal.returns
returns c = one_refusal
