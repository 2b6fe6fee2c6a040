-- Where the cells of a core are while a module runs: each cell's value is that of an operand, which is a register
-- or a fixed value.
use Rattle.std.specs.Prelude.{◌≡◌, ℕ, ◌<◌, Bool, true, false, not, All, List, get_or, pos, Option, Some, slice_get}
use Rattle.qir_module.specs.declared.instruction.Operand.{Operand}
use Rattle.qir_module.specs.declared.instruction.Operand.TheVariants.{Register, Fixed}
use Rattle.qir_module.specs.Machine.{State, value_in}
use Rattle.core_ir.specs.declared.expression.CellKind.{CellKind}
use Rattle.core_ir.specs.declared.expression.CellKind.TheVariants.{Truth as TruthKind, Number as NumberKind}
use Rattle.core_ir.specs.Run.{Cells, cell_value}

abbrev pub is_number : CellKind → Bool
is_number NumberKind = true
is_number TruthKind = false

-- the operand of a cell; behind the last one the constant 0
abbrev pub operand_of : List Operand → ℕ → Operand
operand_of operands c = get_or operands c (Fixed (pos 0))

-- in the machine's state each cell's operand, read by the cell's kind, has the cell's value
pub record HoldsCells (s : State) (kinds : List CellKind) (operands : List Operand) (cells : Cells) : Type 0 where
  pub each : (c : ℕ) (kind : CellKind) → slice_get kinds c ≡ Some kind → value_in s (not (is_number kind)) (operand_of operands c) ≡ Some (cell_value cells c)

-- a register below the next one that is free, or a fixed value
abbrev pub IsBelow : ℕ → Operand → Type 0
IsBelow next (Register r) = r < next
IsBelow next (Fixed z) = Unit {0}

-- where the registers below the next one stay, operands below it hold the cells that they held
abbrev pub CellsStay : Type 0
CellsStay = (next : ℕ) (old new : State) (kinds : List CellKind) (operands : List Operand) (cells : Cells)
    → All (IsBelow next) operands → ((r : ℕ) → r < next → new.registers r ≡ old.registers r) → HoldsCells old kinds operands cells → HoldsCells new kinds operands cells
