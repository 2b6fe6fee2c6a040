use Rattle.qasm_grammar.proofs.Programs.{program_single}
use Rattle.qasm_grammar.proofs.laws.programs_have_one_tree.Goals as goal

pub returns : goal.returns
returns c = program_single
