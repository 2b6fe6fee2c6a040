-- What it means that straight instructions compute the values of expressions.
use Rattle.std.specs.Prelude.{◌≡◌, ◌⊎◌, ℕ, ◌+◌, ◌≤◌, Bool, true, false, not, ◌||◌, All, List, [], ◌∷◌, ◌++◌, length, slice_get, ℤ, pos, Option, Some, None, FitsSigned}
use Rattle.std.specs.Int.{w64}
use Rattle.std.specs.List.{AllByRecursion, flat_map}
use Rattle.qir_module.specs.declared.instruction.Operand.{Operand}
use Rattle.qir_module.specs.declared.instruction.Operand.TheVariants.{Register, Fixed}
use Rattle.qir_module.specs.declared.instruction.Instr.{Instr}
use Rattle.qir_module.specs.declared.instruction.Instr.TheVariants.{Op, Zext, Trunc, Select, Call}
use Rattle.qir_module.specs.declared.instruction.Last.{Last}
use Rattle.qir_module.specs.Machine.{State, value_in, Effect, Goes, effect_of, Later, run_rest}
use Rattle.qir_module.specs.Module.{IsTruthOpcode}
use Rattle.qir_module.specs.Numbered.{CountsFrom, registers_of}
use Rattle.qir_module.specs.Passes.{constants_fit}
use Rattle.core_ir.specs.declared.expression.CellKind.{CellKind}
use Rattle.core_ir.specs.declared.expression.CoreExpr.{CoreExpr}
use Rattle.core_ir.specs.declared.expression.CoreExpr.TheVariants.{Truth as TruthNode, Number as NumberNode}
use Rattle.core_ir.specs.Core.{Core}
use Rattle.core_ir.specs.Run.{Cells, value_at}
use Rattle.core_ir.specs.Size.{is_reached, count_from, working_nodes}
use Rattle.core_ir.specs.WellFormed.{is_comparison, kind_at}
use Rattle.cell_operands.specs.Operands.{is_number, operand_of, HoldsCells, IsBelow}

-- ---- straight runs

abbrev pub goes_on : Effect → Option State
goes_on (Goes s) = Some s
goes_on _ = None

abbrev pub then_state : Option State → (State → Option State) → Option State
then_state None go = None
then_state (Some s) go = go s

-- instructions one behind the other, where each goes on to the next, in a module with so many labels
abbrev pub straight : ℕ → List Instr → State → Option State
straight labels [] s = Some s
straight labels (i ∷ is) s = then_state (goes_on (effect_of labels s i)) (straight labels is)

-- a block goes on behind straight instructions
abbrev pub StraightRuns : Type 0
StraightRuns = (labels : ℕ) (jump : ℕ → Later) (code rest : List Instr) (last : Last) (s s' : State) (outcomes : List Bool) (turns : ℕ)
    → straight labels code s ≡ Some s' → run_rest labels jump (code ++ rest) last s outcomes turns ≡ run_rest labels jump rest last s' outcomes turns

-- ---- values

-- the operand holds the value of the expression, by its kind
abbrev pub HoldsValue : State → Core → Cells → ℕ → Operand → Type 0
HoldsValue s core cells e operand = (kind : CellKind) → kind_at core e ≡ Some kind → value_in s (not (is_number kind)) operand ≡ Some (value_at core.exprs e cells)

-- the same of each expression, with an operand for each
abbrev pub HoldValues : State → Core → Cells → List ℕ → List Operand → Type 0
HoldValues s core cells [] [] = Unit {0}
HoldValues s core cells (e ∷ exprs) (o ∷ operands) = HoldsValue s core cells e o × HoldValues s core cells exprs operands
HoldValues s core cells [] (o ∷ operands) = ⊥
HoldValues s core cells (e ∷ exprs) [] = ⊥

-- a constant is a fixed operand
abbrev pub IsConstant : Option CoreExpr → Operand → Type 0
IsConstant (Some (TruthNode true)) operand = operand ≡ Fixed (pos 1)
IsConstant (Some (TruthNode false)) operand = operand ≡ Fixed (pos 0)
IsConstant (Some (NumberNode z)) operand = operand ≡ Fixed z
IsConstant _ operand = Unit {0}

abbrev pub AreConstant : List CoreExpr → List ℕ → List Operand → Type 0
AreConstant nodes [] [] = Unit {0}
AreConstant nodes (e ∷ exprs) (o ∷ operands) = IsConstant (slice_get nodes e) o × AreConstant nodes exprs operands
AreConstant nodes [] (o ∷ operands) = ⊥
AreConstant nodes (e ∷ exprs) [] = ⊥

-- a word of the core has 64 bits
abbrev pub IsHeldExpr : CoreExpr → Type 0
IsHeldExpr (NumberNode z) = FitsSigned w64 z
IsHeldExpr _ = Unit {0}

-- ---- what is read

-- a fixed word has 64 bits
abbrev pub IsFixedFor : Bool → ℤ → Type 0
IsFixedFor false z = FitsSigned w64 z
IsFixedFor true z = (z ≡ pos 0) ⊎ (z ≡ pos 1)

-- an operand of a type, where `has` says which registers there are, and of which type; a truth value is fixed as 0 or 1
abbrev pub IsTyped : (ℕ → Bool → Type 0) → Bool → Operand → Type 0
IsTyped has truth (Register r) = has r truth
IsTyped has truth (Fixed z) = IsFixedFor truth z

abbrev pub Reads : (ℕ → Bool → Type 0) → Instr → Type 0
Reads has (Op r op truth left right) = IsTruthOpcode truth op × IsTyped has truth left × IsTyped has truth right
Reads has (Zext r from) = IsTyped has true from
Reads has (Trunc r from) = IsTyped has false from
Reads has (Select r truth test chosen other) = IsTyped has true test × IsTyped has truth chosen × IsTyped has truth other
Reads has (Call register function args) = ⊥

-- the instruction gives the register, and a truth value where the flag says so
abbrev pub Gives : Instr → ℕ → Bool → Type 0
Gives (Op r op truth left right) x t = (x ≡ r) × (t ≡ (is_comparison op || truth))
Gives (Zext r from) x t = (x ≡ r) × (t ≡ false)
Gives (Trunc r from) x t = (x ≡ r) × (t ≡ true)
Gives (Select r truth test chosen other) x t = (x ≡ r) × (t ≡ truth)
Gives (Call register function args) x t = ⊥

-- each reads registers that are there before it, or that an earlier one gives; none is a call
abbrev pub ReadsOnly : (ℕ → Bool → Type 0) → List Instr → Type 0
ReadsOnly has [] = Unit {0}
ReadsOnly has (i ∷ is) = Reads has i × ReadsOnly (λ r t. has r t ⊎ Gives i r t) is

-- the registers that are there behind them
abbrev pub Behind : (ℕ → Bool → Type 0) → List Instr → ℕ → Bool → Type 0
Behind has [] r t = has r t
Behind has (i ∷ is) r t = Behind (λ x u. has x u ⊎ Gives i x u) is r t

-- the registers of the cells
abbrev pub HasCell : List CellKind → List Operand → ℕ → Bool → Type 0
HasCell kinds operands r t = (c : ℕ) × (kind : CellKind) × (slice_get kinds c ≡ Some kind) × (operand_of operands c ≡ Register r) × (t ≡ not (is_number kind))

-- each operand is of its expression's kind
abbrev pub AreTyped : (ℕ → Bool → Type 0) → Core → List ℕ → List Operand → Type 0
AreTyped has core [] [] = Unit {0}
AreTyped has core (e ∷ exprs) (o ∷ operands) = ((kind : CellKind) → kind_at core e ≡ Some kind → IsTyped has (not (is_number kind)) o) × AreTyped has core exprs operands
AreTyped has core [] (o ∷ operands) = ⊥
AreTyped has core (e ∷ exprs) [] = ⊥

-- ---- the whole

-- one operand for each cell, of the cell's kind, with registers below the next one
pub record AreCells (kinds : List CellKind) (next : ℕ) (operands : List Operand) : Type 0 where
  pub long : length operands ≡ length kinds
  pub below : All (IsBelow next) operands
  pub typed : (c : ℕ) (kind : CellKind) → slice_get kinds c ≡ Some kind → IsTyped (λ r t. Unit {0}) (not (is_number kind)) (operand_of operands c)

-- the expressions that are reached
abbrev pub reached_nodes : List CoreExpr → List ℕ → ℕ
reached_nodes exprs roots = count_from (is_reached exprs roots) 0 (length exprs)

-- From where the cells are, with registers from `next` on, the code leaves the expressions' values in the operands.
pub record IsLowered (core : Core) (exprs : List ℕ) (cells : List Operand) (next : ℕ) (code : List Instr) (operands : List Operand) : Type 0 where
  -- behind the code the operands hold the values, and the cells are where they were
  pub values : (labels : ℕ) (s : State) (values : Cells) → HoldsCells s core.cells cells values
      → (s' : State) × (straight labels code s ≡ Some s') × HoldsCells s' core.cells cells values × HoldValues s' core values exprs operands
  pub constants : AreConstant core.exprs exprs operands
  -- at most one instruction a working node that is reached
  pub few : length code ≤ working_nodes core.exprs exprs
  -- the registers are `next` and those behind it, one for each instruction
  pub registers : CountsFrom next (flat_map registers_of code)
  pub each : length (flat_map registers_of code) ≡ length code
  pub reads : ReadsOnly (HasCell core.cells cells) code
  -- divisors are fixed from 1 to 2^63 - 1, and amounts of shifts from 0 to 63
  pub fixed : AllByRecursion (λ (i : Instr). constants_fit i ≡ true) code
  pub typed : AreTyped (Behind (HasCell core.cells cells) code) core exprs operands
  pub below : All (IsBelow (next + length code)) operands
