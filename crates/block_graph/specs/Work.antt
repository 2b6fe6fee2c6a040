-- For private contracts only: a block graph while it is made. Blocks are appended and never changed again: a jump names
-- a label, and the phis of a loop's start are named by their place, so that both can be settled later.
use Rattle.std.specs.Prelude.{ℕ, List, Option}
use Rattle.qir_module.specs.declared.instruction.Operand.{Operand}
use Rattle.qir_module.specs.declared.instruction.Instr.{Instr}
use Rattle.qir_module.specs.declared.instruction.Last.{Last}
use Rattle.qir_module.specs.declared.block.Phi.{Phi}
use Rattle.phi_place.specs.State.{CellState}

-- the phis of a block: given, or found later in the list of late phis
pub data PhiPart : Type 0 where
  Ready : (phis : List Phi) → PhiPart
  Late : (place : ℕ) → PhiPart

-- a block whose last instruction names labels
pub record Draft : Type 0 where
  pub phis : PhiPart
  pub body : List Instr
  pub last : Last

-- The end of a block or loop that is open, or the start of a loop that is: its label, and the ways that lead to it so
-- far. For a start its block is known.
pub record Level : Type 0 where
  pub label : ℕ
  pub block : ℕ
  pub ways : List CellState

-- the block that instructions are appended to, with the operands of the cells
pub record Open : Type 0 where
  pub phis : PhiPart
  pub body : List Instr
  pub values : List Operand

pub record Work : Type 0 where
  pub done : List Draft
  -- none where no way along the statements leads
  pub now : Option Open
  -- the next register, and the next result
  pub next : ℕ
  pub results : ℕ
  -- the block of each label
  pub targets : List ℕ
  -- the phis of the starts of loops
  pub lates : List (List Phi)
  -- the innermost stands first
  pub ends : List Level
  pub starts : List Level
