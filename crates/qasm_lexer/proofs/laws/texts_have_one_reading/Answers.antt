use Rattle.qasm_lexer.proofs.OneRun.{one_reading}
use Rattle.qasm_lexer.proofs.laws.texts_have_one_reading.Goals as goal

pub returns : goal.returns
returns c = one_reading
