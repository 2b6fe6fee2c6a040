use Rattle.std.proofs.Common.{◌≡◌, ◌+◌, ◌++◌, [], length, get_or, reverse, vec_len}
use Rattle.block_graph.specs.Lowering.{settled_from}
use Rattle.block_lower.proofs.settle.settle_all.Given as goal

abbrev pub invariant-loop-draft : goal.invariant-loop-draft
invariant-loop-draft l =
    (l.blocks.items ++ settled_from (λ k. get_or l.targets k 0) (λ k. get_or l.lates k []) l.name (reverse l.left.items) ≡ settled_from (λ k. get_or l.targets k 0) (λ k. get_or l.lates k []) 0 l.fn.drafts.items)
    × (l.name + length l.left.items ≡ length l.fn.drafts.items)

abbrev pub decreases-loop-draft : goal.decreases-loop-draft
decreases-loop-draft l = vec_len l.left
