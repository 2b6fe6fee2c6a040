use Rattle.std.proofs.Common.{◌≡◌, ◌+◌, drop}
use Rattle.std.specs.List.{sum_by}
use Rattle.qir_module.specs.Items.{block_items}
use Rattle.qir_module.proofs.module.items.Given as goal

-- the items so far and those of the blocks that are left are all
abbrev pub invariant-loop-block : goal.invariant-loop-block
invariant-loop-block l = (l.count + sum_by block_items (drop l.block-index l.block-items) ≡ sum_by block_items l.block-items)
