use Rattle.qasm_grammar.proofs.Programs.{program_exact}
use Rattle.qasm_grammar.proofs.laws.programs_are_read_exactly.Goals as goal

pub returns : goal.returns
returns c = program_exact
