-- The count of a module's items: its blocks, phi entries, instructions and last instructions.
use Rattle.std.specs.Prelude.{ℕ, ◌+◌, List, length}
use Rattle.std.specs.List.{sum_by}
use Rattle.qir_module.specs.declared.block.Phi.{Phi}
use Rattle.qir_module.specs.declared.block.Block.{Block}

-- the block itself, its phi entries, its instructions and its last instruction
abbrev pub block_items : Block → ℕ
block_items b = 1 + sum_by (λ (p : Phi). length p.entries) b.phis + length b.body + 1

abbrev pub items_of : List Block → ℕ
items_of blocks = sum_by block_items blocks
