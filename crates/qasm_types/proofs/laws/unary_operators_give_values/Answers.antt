use Rattle.qasm_types.proofs.Giving.{unary_is_value}
use Rattle.qasm_types.proofs.laws.unary_operators_give_values.Goals as goal

pub returns : goal.returns
returns c = unary_is_value c.negatives_keep_lowest_terms.ensures
