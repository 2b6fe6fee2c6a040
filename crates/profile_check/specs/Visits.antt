-- Serves private contracts: the items of a module with their places, as a visitor is given them.
use Rattle.std.specs.Prelude.{ℕ, suc, List, [], ◌∷◌, ◌++◌, map}
use Rattle.qir_module.specs.declared.instruction.Instr.{Instr}
use Rattle.qir_module.specs.declared.instruction.Last.{Last}
use Rattle.qir_module.specs.declared.block.Phi.{Phi}
use Rattle.qir_module.specs.declared.block.Block.{Block}
use Rattle.qir_module.specs.Spots.{Item, ThePhi, TheInstr, TheLast}

pub record Placed : Type 0 where
  pub block : ℕ
  pub item : ℕ
  pub here : Item

abbrev pub placed_items : ℕ → ℕ → List Item → List Placed
placed_items k i [] = []
placed_items k i (x ∷ xs) = record { block = k; item = i; here = x } ∷ placed_items k (suc i) xs

-- the parts of a block
abbrev pub placed_parts : ℕ → List Phi → List Instr → Last → List Placed
placed_parts k phis body last = placed_items k 0 (map ThePhi phis ++ map TheInstr body ++ TheLast last ∷ [])

abbrev pub placed_in : ℕ → Block → List Placed
placed_in k b = placed_parts k b.phis b.body b.last

abbrev pub placed_from : ℕ → List Block → List Placed
placed_from k [] = []
placed_from k (b ∷ blocks) = placed_in k b ++ placed_from (suc k) blocks
