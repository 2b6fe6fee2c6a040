use Rattle.const_eval.proofs.NumberRows.{row_left_numbered, row_right_numbered}
use Rattle.const_eval.proofs.operator.computed.Goals as goal

pub numbers_result-requires : goal.numbers_result-requires
numbers_result-requires c =
    let left = row_left_numbered _ _ _ _ c.requires.0 c.in_default.not-Pi c.in_default.not-Bits in
    record { row = c.requires; left = left; right = row_right_numbered _ _ _ _ c.requires.0 left c.in_default-right.not-Pi }
