-- The operands of the cells at the end of a block.
use Rattle.std.specs.Prelude.{ℕ, List}
use Rattle.qir_module.specs.declared.instruction.Operand.{Operand}

pub record CellState : Type 0 where
  pub block : ℕ
  pub values : List Operand
