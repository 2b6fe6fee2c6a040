use Rattle.std.proofs.Common.{◌≡◌, drop, length, reverse, []}
use Rattle.expr_lower.specs.Order.{put_all, head_or, Collects}
use Rattle.expr_lower.proofs.reached.reached.Given as goal

abbrev pub invariant-loop-root : goal.invariant-loop-root
invariant-loop-root l = put_all l.pending.keys (drop l.root-index l.roots) ≡ put_all [] l.roots

-- taken so far, the last first
abbrev pub invariant-loop-k : goal.invariant-loop-k
invariant-loop-k l = Collects l.exprs l.roots l.pending.keys (reverse l.order.items)

abbrev pub decreases-loop-k : goal.decreases-loop-k
decreases-loop-k l = head_or (length l.exprs) (reverse l.order.items)
