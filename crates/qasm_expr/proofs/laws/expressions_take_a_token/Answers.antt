use Rattle.qasm_expr.proofs.Levels.{expr_moves}
use Rattle.qasm_expr.proofs.laws.expressions_take_a_token.Goals as goal

pub returns : goal.returns
returns c = expr_moves
