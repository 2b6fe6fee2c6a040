-- For private contracts only: rows of operands that hold the cells alone that are not 0, and what joins look at of them.
use Rattle.std.specs.Prelude.{◌≡◌, ℕ, ◌<◌, ◌≤◌, ◌^◌, Bool, false, List, [], ◌∷◌, length, map, replicate, slice_set, All, pos}
use Rattle.std.specs.List.Sorted.{IsStrictlyIncreasing}
use Rattle.qir_module.specs.declared.instruction.Operand.{Operand}
use Rattle.qir_module.specs.declared.instruction.Operand.TheVariants.{Fixed}
use Rattle.cell_operands.specs.Operands.{operand_of}
use Rattle.phi_place.specs.State.{CellState}
use Rattle.phi_place.specs.Phis.{is_listed, operand_at}

-- a row of operands, with these cells at these operands
abbrev pub placed : List ℕ → List Operand → List Operand → List Operand
placed [] operands row = row
placed (c ∷ cells) [] row = row
placed (c ∷ cells) (o ∷ operands) row = placed cells operands (slice_set row c o)

-- the cells of pairs
abbrev pub pair_cells : List (ℕ × ℕ) → List ℕ
pair_cells pairs = map (λ (p : ℕ × ℕ). p.0) pairs

-- the row of so many operands in which these cells are at these operands, and all others are 0 or false
abbrev pub kept_row : ℕ → List ℕ → List Operand → List Operand
kept_row count cells operands = placed cells operands (replicate count (Fixed (pos 0)))

-- the cells ascend, each has its operand, and all are within the row
pub record IsKept (count : ℕ) (cells : List ℕ) (operands : List Operand) : Type 0 where
  pub few : count ≤ 2 ^ 31
  pub rises : IsStrictlyIncreasing cells
  pub within : All (λ c. c < count) cells
  pub each : length operands ≡ length cells

-- the operands of these cells
abbrev pub picked : List ℕ → List Operand → List Operand
picked cells row = map (operand_of row) cells

-- a way with the operands of these cells alone
abbrev pub shortened : List ℕ → CellState → CellState
shortened cells way = record { block = way.block; values = picked cells way.values }

-- of the first n cells each that is not listed is 0 or false on all these ways
abbrev pub AreListed : ℕ → List ℕ → List CellState → Type 0
AreListed n cells ways = (c : ℕ) → c < n → is_listed cells c ≡ false → All (λ way. operand_at way c ≡ Fixed (pos 0)) ways
