use Rattle.std.proofs.Common.{sym, ◌∙◌, arith}
use Rattle.block_lower.proofs.Zeros.{zero_at}
use Rattle.block_lower.proofs.mark.is_zero.Goals as goal

pub returns-then-place-exprs : goal.returns-then-place-exprs
returns-then-place-exprs c = c.is_zero_node.ensures ∙ sym (zero_at c.args.exprs.now c.args.e _ (omega arith))
