use Rattle.expr_names.proofs.Same.{constants_rest, walks_rest, values_rest, operands_rest}
use Rattle.expr_names.proofs.laws.expressions_rest_on_their_names.Goals as goal

pub returns : goal.returns
returns c = record { constants = constants_rest; walks = walks_rest; values = values_rest; operands = operands_rest }
