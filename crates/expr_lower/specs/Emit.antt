-- For private contracts only: the code of expressions, in the order of their numbers.
use Rattle.std.specs.Prelude.{ℕ, suc, ◌+◌, nat_eq, if◌then◌else◌, Bool, true, false, ◌||◌, List, [], ◌∷◌, ◌++◌, length, get_or, slice_get, pos, Option, Some}
use Rattle.qir_module.specs.declared.instruction.Operand.{Operand}
use Rattle.qir_module.specs.declared.instruction.Operand.TheVariants.{Register, Fixed}
use Rattle.qir_module.specs.declared.instruction.Instr.{Instr}
use Rattle.qir_module.specs.declared.instruction.Instr.TheVariants.{Op, Zext, Trunc, Select}
use Rattle.core_ir.specs.declared.expression.CellKind.{CellKind}
use Rattle.core_ir.specs.declared.expression.CellKind.TheVariants.{Truth as TruthKind}
use Rattle.core_ir.specs.declared.expression.CoreExpr.{CoreExpr}
use Rattle.core_ir.specs.declared.expression.CoreExpr.TheVariants.{Cell as CellNode, Truth as TruthNode, Number as NumberNode, Op as OpNode, Widen as WidenNode, Narrow as NarrowNode, Choose as ChooseNode}
use Rattle.core_ir.specs.WellFormed.{is_comparison}
use Rattle.cell_operands.specs.Operands.{operand_of}
use Rattle.expr_lower.specs.declared.emit.Entry.{Entry}

abbrev pub nothing : Entry
nothing = record { operand = Fixed (pos 0); truth = false }

-- the place of a number in a list, or the list's length
abbrev pub place_in : List ℕ → ℕ → ℕ
place_in [] k = 0
place_in (x ∷ xs) k = if nat_eq x k then 0 else suc (place_in xs k)

-- where the value of expression k is
abbrev pub found : List ℕ → List Entry → ℕ → Entry
found order done k = get_or done (place_in order k) nothing

abbrev pub is_truth_cell : Option CellKind → Bool
is_truth_cell (Some TruthKind) = true
is_truth_cell _ = false

abbrev pub in_register : ℕ → Bool → Entry
in_register next truth = record { operand = Register next; truth = truth }

abbrev pub entry_of : List CellKind → List Operand → (ℕ → Entry) → ℕ → CoreExpr → Entry
entry_of kinds cells memo next (CellNode c) = record { operand = operand_of cells c; truth = is_truth_cell (slice_get kinds c) }
entry_of kinds cells memo next (TruthNode b) = record { operand = Fixed (if b then pos 1 else pos 0); truth = true }
entry_of kinds cells memo next (NumberNode z) = record { operand = Fixed z; truth = false }
entry_of kinds cells memo next (OpNode op a b) = in_register next (is_comparison op || (memo a).truth)
entry_of kinds cells memo next (WidenNode a) = in_register next false
entry_of kinds cells memo next (NarrowNode a) = in_register next true
entry_of kinds cells memo next (ChooseNode test a b) = in_register next (memo a).truth

abbrev pub code_of : (ℕ → Entry) → ℕ → CoreExpr → List Instr
code_of memo next (CellNode c) = []
code_of memo next (TruthNode b) = []
code_of memo next (NumberNode z) = []
code_of memo next (OpNode op a b) = Op next op (memo a).truth (memo a).operand (memo b).operand ∷ []
code_of memo next (WidenNode a) = Zext next (memo a).operand ∷ []
code_of memo next (NarrowNode a) = Trunc next (memo a).operand ∷ []
code_of memo next (ChooseNode test a b) = Select next (memo a).truth (memo test).operand (memo a).operand (memo b).operand ∷ []

pub record Emitted : Type 0 where
  pub done : List Entry
  pub code : List Instr

-- the expressions that are left of the order, where those in front of them are done
abbrev pub emit : List CoreExpr → List CellKind → List Operand → List ℕ → List ℕ → List Entry → ℕ → Emitted
emit exprs kinds cells order [] done next = record { done = done; code = [] }
emit exprs kinds cells order (k ∷ rest) done next =
    let node = get_or exprs k (TruthNode false) in
    let code = code_of (found order done) next node in
    let more = emit exprs kinds cells order rest (done ++ entry_of kinds cells (found order done) next node ∷ []) (next + length code) in
    record { done = more.done; code = code ++ more.code }
