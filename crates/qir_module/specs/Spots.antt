-- The items of a module's blocks, in the order of the text, each with where it stands: a block's items are
-- its phis, its instructions and its last instruction, and blocks and items are counted from 0.
use Rattle.std.specs.Prelude.{ℕ, suc, List, [], ◌∷◌, ◌++◌, map}
use Rattle.qir_module.specs.declared.instruction.Instr.{Instr}
use Rattle.qir_module.specs.declared.instruction.Last.{Last}
use Rattle.qir_module.specs.declared.block.Phi.{Phi}
use Rattle.qir_module.specs.declared.block.Block.{Block}
use Rattle.qir_module.specs.Module.{Module}

pub data Item : Type 0 where
  ThePhi : (phi : Phi) → Item
  TheInstr : (instr : Instr) → Item
  TheLast : (last : Last) → Item

abbrev pub items_in : Block → List Item
items_in b = map ThePhi b.phis ++ map TheInstr b.body ++ TheLast b.last ∷ []

-- an item where it stands
pub record Spot : Type 0 where
  pub block : ℕ
  pub item : ℕ
  pub of : Block
  -- the items of its block that stand in front of it
  pub front : List Item
  pub here : Item

-- the items from one on, behind those in front of them
abbrev pub spots_behind : ℕ → Block → ℕ → List Item → List Item → List Spot
spots_behind k b i front [] = []
spots_behind k b i front (item ∷ items) =
    record { block = k; item = i; of = b; front = front; here = item } ∷ spots_behind k b (suc i) (front ++ item ∷ []) items

-- those of the k-th block
abbrev pub block_spots : ℕ → Block → List Spot
block_spots k b = spots_behind k b 0 [] (items_in b)

-- those of the blocks from the k-th on
abbrev pub spots_from : ℕ → List Block → List Spot
spots_from k [] = []
spots_from k (b ∷ blocks) = block_spots k b ++ spots_from (suc k) blocks

abbrev pub spots : Module → List Spot
spots m = spots_from 0 m.blocks
