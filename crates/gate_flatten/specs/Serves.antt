-- What `expand` asks of an environment: that it answers for what occurs in the program, and which answers it may give.
use Rattle.std.specs.Prelude.{◌≡◌, ℕ, List, length, slice_get, All, IsSomeAnd, Option, Some, None, Result}
use Rattle.std.specs.Map.{lookup}
use Rattle.qq_base.specs.declared.rule.Rule.{Rule}
use Rattle.qq_base.specs.declared.run.QubitId.{QubitId}
use Rattle.qasm_ast.specs.declared.expr.OperandName.{OperandName}
use Rattle.qasm_ast.specs.declared.expr.OperandRef.{OperandRef}
use Rattle.qasm_ast.specs.declared.stmt.Stmt.{Stmt}
use Rattle.qasm_ast.specs.declared.stmt.StmtKind.{StmtKind}
use Rattle.qasm_ast.specs.declared.stmt.StmtKind.TheVariants as s
use Rattle.qasm_ast.specs.Whole.{Source}
use Rattle.alias_resolve.specs.Places.{Selected}
use Rattle.const_eval.specs.declared.environment.Callable.{Callable}
use Rattle.const_eval.specs.Meaning.{Meaning}
use Rattle.const_eval.specs.Seen.{HasNames, MeaningInside, is_same_operand}
use Rattle.gate_arguments.specs.Answering.{QubitsFit, HasCallables, HasInside}
use Rattle.gate_flatten.specs.Outer.{OuterMeaning}

-- ---- statements

abbrev pub IsGateCall : Option Stmt → Type 0
IsGateCall None = ⊥
IsGateCall (Some stmt) = of stmt.kind
  where
    of : StmtKind → Type 0
    of (s.GateCall mods name args os) = Unit {0}
    of _ = ⊥

-- of each operand of a call it is said which qubits it names
abbrev pub HasOperands : List (OperandName × Result (Selected QubitId) Rule) → List OperandRef → Type 0
HasOperands operands os = All (λ (o : OperandRef). IsSomeAnd (lookup (is_same_operand o.name) operands) QubitsFit) os

-- The operands of a call are answered, and so is each of its arguments.
abbrev pub HasParts : List (OperandName × Result (Selected QubitId) Rule) → List OuterMeaning → Option Stmt → Type 0
HasParts operands outers None = Unit {0}
HasParts operands outers (Some stmt) = of stmt.kind
  where
    of : StmtKind → Type 0
    of (s.GateCall mods name args os) = HasOperands operands os × (length outers ≡ length args)
    of _ = Unit {0}

pub record Serves (p : Source) (call : ℕ) (names : List (ℕ × Meaning)) (callables : List (ℕ × Callable)) (operands : List (OperandName × Result (Selected QubitId) Rule)) (inside : List ((ℕ × ℕ) × MeaningInside)) (outers : List OuterMeaning) : Type 0 where
  pub has_names : HasNames p names
  pub has_callables : HasCallables p callables
  pub has_inside : HasInside p inside
  pub has_parts : HasParts operands outers (slice_get p.stmts call)
