-- What `bind_call` asks of an environment: that it answers for what occurs in the program, and which answers it may give.
use Rattle.std.specs.Prelude.{ℕ, List, All, IsSomeAnd, Option, Some, None, Result, slice_get}
use Rattle.std.specs.Map.{lookup}
use Rattle.qq_base.specs.declared.rule.Rule.{Rule}
use Rattle.qq_base.specs.declared.run.QubitId.{QubitId}
use Rattle.qasm_ast.specs.declared.expr.Expr.{Expr}
use Rattle.qasm_ast.specs.declared.expr.ExprId.{ExprId}
use Rattle.qasm_ast.specs.declared.expr.ExprKind.{ExprKind}
use Rattle.qasm_ast.specs.declared.expr.ExprKind.TheVariants as e
use Rattle.qasm_ast.specs.declared.expr.OperandName.{OperandName}
use Rattle.qasm_ast.specs.declared.expr.OperandName.TheVariants as o
use Rattle.qasm_ast.specs.Whole.{Source}
use Rattle.alias_resolve.specs.Places.{Selected}
use Rattle.const_eval.specs.declared.environment.Callable.{Callable}
use Rattle.const_eval.specs.Meaning.{Meaning}
use Rattle.const_eval.specs.Seen.{HasNames, MeaningInside, is_same_operand}
use Rattle.gate_arguments.specs.Answering.{QubitsFit, HasCallables, HasInside}
use Rattle.subroutine_inline.specs.Bound.{arguments_of}

-- it is said which qubits an operand names, or which rule its name breaks
abbrev pub HasOperand : List (OperandName × Result (Selected QubitId) Rule) → OperandName → Type 0
HasOperand operands name = IsSomeAnd (lookup (is_same_operand name) operands) QubitsFit

-- and so of an argument that is a name or a `$n`
abbrev pub HasArgument : List (OperandName × Result (Selected QubitId) Rule) → Option Expr → Type 0
HasArgument operands None = Unit {0}
HasArgument operands (Some node) = of node.kind
  where
    of : ExprKind → Type 0
    of (e.Name operand) = HasOperand operands operand.name
    of (e.Hardware n) = HasOperand operands (o.Hardware n)
    of _ = Unit {0}

abbrev pub HasArguments : Source → List (OperandName × Result (Selected QubitId) Rule) → List ExprId → Type 0
HasArguments p operands ids = All (λ (id : ExprId). HasArgument operands (slice_get p.exprs id.0)) ids

pub record Serves (p : Source) (call : ℕ) (names : List (ℕ × Meaning)) (callables : List (ℕ × Callable)) (operands : List (OperandName × Result (Selected QubitId) Rule)) (inside : List ((ℕ × ℕ) × MeaningInside)) : Type 0 where
  pub has_names : HasNames p names
  pub has_callables : HasCallables p callables
  pub has_inside : HasInside p inside
  pub has_arguments : HasArguments p operands (arguments_of (slice_get p.exprs call))
