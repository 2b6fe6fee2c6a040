-- The phis where ways join, and what they carry. Phis are those of the LLVM Language Reference: each has an
-- operand for each block that leads to its own, and all are taken at once.
use Rattle.std.specs.Prelude.{◌≡◌, ◌≢◌, ◌⊎◌, ℕ, suc, ◌<◌, nat_eq, if◌then◌else◌, Bool, true, false, not, ◌&&◌, List, [], ◌∷◌, length, map, All, ℤ, pos, negsuc, Some}
use Rattle.std.specs.List.{list_any, AllByRecursion}
use Rattle.qir_module.specs.declared.instruction.Operand.{Operand}
use Rattle.qir_module.specs.declared.instruction.Operand.TheVariants.{Register, Fixed}
use Rattle.qir_module.specs.declared.block.Phi.{Phi}
use Rattle.qir_module.specs.Machine.{State, take_phis}
use Rattle.core_ir.specs.declared.expression.CellKind.{CellKind}
use Rattle.cell_operands.specs.Operands.{is_number, operand_of, HoldsCells, IsBelow}
use Rattle.core_ir.specs.Run.{Cells}
use Rattle.phi_place.specs.State.{CellState}

abbrev pub operand_at : CellState → ℕ → Operand
operand_at way c = operand_of way.values c

-- ---- which cells have a phi

abbrev pub same_number : ℤ → ℤ → Bool
same_number (pos m) (pos n) = nat_eq m n
same_number (negsuc m) (negsuc n) = nat_eq m n
same_number (pos m) (negsuc n) = false
same_number (negsuc m) (pos n) = false

abbrev pub same_operand : Operand → Operand → Bool
same_operand (Register r) (Register s) = nat_eq r s
same_operand (Fixed x) (Fixed y) = same_number x y
same_operand (Register r) (Fixed y) = false
same_operand (Fixed x) (Register s) = false

-- whether each way has this operand in the cell
abbrev pub all_same : Operand → List CellState → ℕ → Bool
all_same operand [] c = true
all_same operand (way ∷ ways) c = same_operand operand (operand_at way c) && all_same operand ways c

-- whether two ways have different operands in the cell
abbrev pub ways_differ : List CellState → ℕ → Bool
ways_differ [] c = false
ways_differ (way ∷ ways) c = not (all_same (operand_at way c) ways c)

abbrev pub is_listed : List ℕ → ℕ → Bool
is_listed cells c = list_any (λ k. nat_eq k c) cells

-- ---- the phis, and the operands behind them

-- what the ways have in the cell, each under the name of its block
abbrev pub entries_of : List CellState → ℕ → List (Operand × ℕ)
entries_of ways c = map (λ (way : CellState). (operand_at way c, way.block)) ways

-- from cell c on, with the registers from `next` on
abbrev pub phis_for : (ℕ → Bool) → List CellState → List CellKind → ℕ → ℕ → List Phi
phis_for needs ways [] c next = []
phis_for needs ways (kind ∷ kinds) c next =
    if needs c
    then record { register = next; number = is_number kind; entries = entries_of ways c } ∷ phis_for needs ways kinds (suc c) (suc next)
    else phis_for needs ways kinds (suc c) next

-- a cell with a phi is in its register, and each other is where the first way has it
abbrev pub values_for : (ℕ → Bool) → List Operand → ℕ → ℕ → List Operand
values_for needs [] c next = []
values_for needs (operand ∷ operands) c next =
    if needs c then Register next ∷ values_for needs operands (suc c) (suc next) else operand ∷ values_for needs operands (suc c) next

abbrev pub first_values : List CellState → List Operand
first_values [] = []
first_values (way ∷ ways) = way.values

-- ---- what they carry

-- after the phis taken from the way's block, the new operands hold what the way's held
pub record Carries (phis : List Phi) (kinds : List CellKind) (way : CellState) (values : List Operand) : Type 0 where
  pub by : (s : State) (cells : Cells) → HoldsCells s kinds way.values cells → (s' : State) × (take_phis phis (Some way.block) s ≡ Some s') × HoldsCells s' kinds values cells

-- ---- ways that can be joined

-- one operand for each cell, with registers below the next one
abbrev pub IsWay : ℕ → ℕ → CellState → Type 0
IsWay count next way = (length way.values ≡ count) × All (IsBelow next) way.values

abbrev pub IsAmong : CellState → List CellState → Type 0
IsAmong way [] = ⊥
IsAmong way (w ∷ ways) = (way ≡ w) ⊎ IsAmong way ways

-- no two ways come from one block
abbrev pub HaveOwnBlocks : List CellState → Type 0
HaveOwnBlocks [] = Unit {0}
HaveOwnBlocks (way ∷ ways) = AllByRecursion (λ (w : CellState). way.block ≢ w.block) ways × HaveOwnBlocks ways

-- ---- laws

-- The phis of some ways carry each of them, where it has the first operand in each cell without a phi. Only the
-- operands that stay need registers below those of the phis.
abbrev pub WaysCarry : Type 0
WaysCarry = (needs : ℕ → Bool) (ways : List CellState) (kinds : List CellKind) (first : List Operand) (way : CellState) (next : ℕ)
    → HaveOwnBlocks ways → IsAmong way ways → length first ≡ length kinds → All (IsBelow next) first
    → ((c : ℕ) → c < length kinds → needs c ≡ false → operand_of first c ≡ operand_at way c)
    → Carries (phis_for needs ways kinds 0 next) kinds way (values_for needs first 0 next)

-- where the ways do not differ, each has the first one's operand
abbrev pub SameWhereNotDiffer : Type 0
SameWhereNotDiffer = (ways : List CellState) (way : CellState) (c : ℕ) → IsAmong way ways → ways_differ ways c ≡ false → operand_of (first_values ways) c ≡ operand_at way c
