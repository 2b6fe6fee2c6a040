use Rattle.qasm_types.proofs.Reduced.{cast_is_value, taken_is_value}
use Rattle.qasm_types.proofs.laws.casts_give_values.Goals as goal

pub returns-clause-casts : goal.returns-clause-casts
returns-clause-casts c = cast_is_value

pub returns-clause-taken : goal.returns-clause-taken
returns-clause-taken c = taken_is_value
