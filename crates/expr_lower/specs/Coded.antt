-- The code of expressions as one function of the core, the expressions, the operands of the cells and the next register:
-- of all expressions that are reached, in the order of their numbers. What the code does is said by `IsLowered` of
-- `specs/Lowered.antt`.
use Rattle.std.specs.Prelude.{◌≡◌, ℕ, ◌<◌, All, List, [], length, map, filter}
use Rattle.qir_module.specs.declared.instruction.Operand.{Operand}
use Rattle.qir_module.specs.declared.instruction.Instr.{Instr}
use Rattle.qir_module.specs.Numbered.{counted}
use Rattle.core_ir.specs.declared.expression.CoreExpr.{CoreExpr}
use Rattle.core_ir.specs.Core.{Core}
use Rattle.core_ir.specs.Size.{is_reached}
use Rattle.core_ir.specs.WellFormed.{IsWellFormed, IsSafe}
use Rattle.expr_lower.specs.Emit.{found, emit}
use Rattle.expr_lower.specs.Lowered.{IsHeldExpr, AreConstant, AreCells, IsLowered}

-- code that leaves the values of some expressions in operands
pub record Coded : Type 0 where
  pub code : List Instr
  pub operands : List Operand

-- the expressions that the roots reach, in the order of their numbers
abbrev pub order_of : List CoreExpr → List ℕ → List ℕ
order_of exprs roots = filter (is_reached exprs roots) (counted 0 (length exprs))

unfoldable pub coded : Core → List ℕ → List Operand → ℕ → Coded
coded core exprs cells next =
    let order = order_of core.exprs exprs in
    let all = emit core.exprs core.cells cells order order [] next in
    record { code = all.code; operands = map (λ e. (found order all.done e).operand) exprs }

-- ---- its law

pub record IsCoded (core : Core) : Type 0 where
  -- a constant is a fixed operand, whichever expressions are asked for
  pub constants : (exprs : List ℕ) (cells : List Operand) (next : ℕ) → AreConstant core.exprs exprs (coded core exprs cells next).operands
  -- expressions of the core have their values in the operands, from cells that are where they should be
  pub lowers : (exprs : List ℕ) (cells : List Operand) (next : ℕ) → All (λ e. e < length core.exprs) exprs → AreCells core.cells next cells
      → IsLowered core exprs cells next (coded core exprs cells next).code (coded core exprs cells next).operands

abbrev pub CodesExpressions : Type 0
CodesExpressions = (core : Core) → IsWellFormed core → IsSafe core.exprs → All IsHeldExpr core.exprs → IsCoded core
