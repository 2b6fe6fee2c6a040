use Rattle.qasm_types.proofs.Giving.{applied_is_value, result_is_value}
use Rattle.qasm_types.proofs.laws.operators_give_values.Goals as goal

pub returns-clause-applied : goal.returns-clause-applied
returns-clause-applied c = applied_is_value c.fractions_have_lowest_terms.ensures

pub returns-clause-results : goal.returns-clause-results
returns-clause-results c = result_is_value c.fractions_have_lowest_terms.ensures
