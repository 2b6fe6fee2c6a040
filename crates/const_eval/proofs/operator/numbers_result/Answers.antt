use Rattle.const_eval.proofs.NumberRows.{row_numbered}
use Rattle.const_eval.proofs.operator.numbers_result.Goals as goal

pub constant_at-requires-clause-numbered : goal.constant_at-requires-clause-numbered
constant_at-requires-clause-numbered c = row_numbered _ _ _ _ c.requires.row.0 c.requires.left c.requires.right
