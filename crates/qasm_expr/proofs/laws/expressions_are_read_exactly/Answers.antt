use Rattle.qasm_expr.proofs.Levels.{expr_exactly}
use Rattle.qasm_expr.proofs.laws.expressions_are_read_exactly.Goals as goal

pub returns : goal.returns
returns c = expr_exactly
