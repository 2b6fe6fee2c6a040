use Rattle.qasm_types.proofs.Operating.{row_from_plan, row_from_unary}
use Rattle.qasm_types.proofs.laws.plans_are_rows.Goals as goal

pub returns-clause-operators : goal.returns-clause-operators
returns-clause-operators c = row_from_plan

pub returns-clause-unary_operators : goal.returns-clause-unary_operators
returns-clause-unary_operators c = row_from_unary
