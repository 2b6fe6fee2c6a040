use Rattle.const_eval.proofs.RowsOfConstants.{constant_row, constant_type}
use Rattle.const_eval.proofs.operator.binary_result.Goals as goal

pub computed-requires : goal.computed-requires
computed-requires c = constant_row _ _ _ _ _ _ _ _ c.in_ok-plan.ensures.stands (constant_type c.args.left.now) (constant_type c.args.right.now)
