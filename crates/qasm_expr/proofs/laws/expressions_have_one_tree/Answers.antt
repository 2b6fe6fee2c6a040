use Rattle.qasm_expr.proofs.Levels.{expr_single}
use Rattle.qasm_expr.proofs.laws.expressions_have_one_tree.Goals as goal

pub returns : goal.returns
returns c = expr_single
