-- What the answer of `expand` is due, by what its environment means.
use Rattle.std.specs.Prelude.{ℕ, ◌+◌, List, [], ◌∷◌, map, ℤ, Result, Ok, Err}
use Rattle.qq_base.specs.declared.refusal.Refusal.{Refusal}
use Rattle.qq_base.specs.declared.rule.Rule.{Rule}
use Rattle.qq_base.specs.declared.run.QubitId.{QubitId}
use Rattle.qasm_ast.specs.declared.expr.OperandName.{OperandName}
use Rattle.qasm_ast.specs.Tree.{Statement, gate_call, place_of_statement}
use Rattle.qasm_ast.specs.Whole.{Source}
use Rattle.qasm_ast.specs.View.{statement_in}
use Rattle.alias_resolve.specs.Places.{Selected}
use Rattle.const_eval.specs.declared.environment.Callable.{Callable}
use Rattle.const_eval.specs.Constant.{Constant}
use Rattle.const_eval.specs.Meaning.{Meaning}
use Rattle.const_eval.specs.Seen.{MeaningInside}
use Rattle.const_eval.specs.Walk.{Walk, done, within_budget}
use Rattle.gate_lists.specs.Instructions.{Instruction}
use Rattle.gate_lists.specs.Seen.{Expanded, leaf_of}
use Rattle.gate_arguments.specs.Environment.{declarations_in, scope_in}
use Rattle.gate_arguments.specs.Scope.{Declarations, Scope, turn_of}
use Rattle.gate_flatten.specs.Outer.{OuterMeaning, FixedOuter, RunningOuter}
use Rattle.gate_flatten.specs.Expand.{call_of, expansion}

abbrev pub due : Result (List Instruction × ℕ) Refusal → Result Expanded Refusal
due (Ok made) = Ok (record { leaves = map leaf_of made.0; cost = made.1 })
due (Err refusal) = Err refusal

-- the arguments of the outermost call, where those that are turns have these units
abbrev pub outer_argument : (ℕ → ℤ) → ℕ → OuterMeaning → Constant
outer_argument given k (FixedOuter c) = c
outer_argument given k RunningOuter = turn_of (given k)

abbrev pub outer_arguments : (ℕ → ℤ) → ℕ → List OuterMeaning → List Constant
outer_arguments given k [] = []
outer_arguments given k (outer ∷ outers) = outer_argument given k outer ∷ outer_arguments given (k + 1) outers

-- the walk of a statement that is a call of a gate
abbrev pub walk_of_call : Declarations → Scope → List Constant → Statement → Walk (List Instruction)
walk_of_call declared scope arguments (gate_call changes name places operands _ _) = expansion declared scope (call_of changes name places operands) arguments
walk_of_call declared scope arguments _ = done []

-- What `expand` answers where the run-time arguments have these units. A cost that passes the budget stands at the statement.
abbrev pub due_expansion : Declarations → Scope → List Constant → Statement → ℕ → Result Expanded Refusal
due_expansion declared scope arguments s budget = due (within_budget budget (place_of_statement s) (walk_of_call declared scope arguments s))

-- The same by the meanings of an environment.
abbrev pub due_call : Source → ℕ → List (ℕ × Meaning) → List (ℕ × Callable) → List (OperandName × Result (Selected QubitId) Rule) → List ((ℕ × ℕ) × MeaningInside) → List OuterMeaning → ℕ → (ℕ → ℤ) → Result Expanded Refusal
due_call p call names callables operands inside outers budget given =
    due_expansion (declarations_in p inside) (scope_in p names callables operands) (outer_arguments given 0 outers) (statement_in p call) budget
