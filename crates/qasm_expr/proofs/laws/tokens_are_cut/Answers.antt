use Rattle.qasm_expr.proofs.Cuts.{cut_of}
use Rattle.qasm_expr.proofs.laws.tokens_are_cut.Goals as goal

pub returns : goal.returns
returns c = cut_of
