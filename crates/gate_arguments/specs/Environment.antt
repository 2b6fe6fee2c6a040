-- What the maps of an environment say by the texts of names: where the outermost call of a gate stands, and what is declared.
use Rattle.std.specs.Prelude.{ℕ, List, [], nat_eq, pos, Result, Err}
use Rattle.std.specs.Map.{lookup}
use Rattle.std.specs.Option.{option_and_then, unwrap_or}
use Rattle.qq_base.specs.declared.rule.Rule.{Rule}
use Rattle.qq_base.specs.declared.rule.Rule.TheVariants.{Unknown}
use Rattle.qq_base.specs.declared.run.QubitId.{QubitId}
use Rattle.qasm_ast.specs.declared.expr.OperandName.{OperandName}
use Rattle.qasm_ast.specs.declared.expr.OperandName.TheVariants as name
use Rattle.qasm_ast.specs.declared.stmt.StmtId.{StmtId}
use Rattle.qasm_ast.specs.Tree.{Called, word, qubit}
use Rattle.qasm_ast.specs.Whole.{Source}
use Rattle.qasm_ast.specs.View.{number_of, statement_in}
use Rattle.alias_resolve.specs.Places.{Selected}
use Rattle.const_eval.specs.declared.environment.Callable.{Callable}
use Rattle.const_eval.specs.declared.environment.Callable.TheVariants as callable
use Rattle.const_eval.specs.Meaning.{Meaning, meaning_in}
use Rattle.const_eval.specs.Seen.{MeaningInside, NothingInside, is_same_operand, is_same_place}
use Rattle.gate_arguments.specs.Scope.{Declarations, Scope}

module _ (p : Source) where
  abbrev pub called_in : List (ℕ × Callable) → List ℕ → Callable
  called_in callables text = unwrap_or (option_and_then (λ n. lookup (nat_eq n) callables) (number_of p.names text)) callable.Unknown

  abbrev pub operand_in : List (OperandName × Result (Selected QubitId) Rule) → Called → Result (Selected QubitId) Rule
  operand_in operands (word text) = unwrap_or (option_and_then (λ n. lookup (is_same_operand (name.Name n)) operands) (number_of p.names text)) (Err Unknown)
  operand_in operands (qubit n) = unwrap_or (lookup (is_same_operand (name.Hardware n)) operands) (Err Unknown)

  abbrev pub inside_in : List ((ℕ × ℕ) × MeaningInside) → StmtId → List ℕ → MeaningInside
  inside_in inside id text = unwrap_or (option_and_then (λ n. lookup (is_same_place (id.0, n)) inside) (number_of p.names text)) NothingInside

  abbrev pub declarations_in : List ((ℕ × ℕ) × MeaningInside) → Declarations
  declarations_in inside = record { definition = λ id. statement_in p id.0; inside = inside_in inside }

  -- where the outermost call stands
  abbrev pub scope_in : List (ℕ × Meaning) → List (ℕ × Callable) → List (OperandName × Result (Selected QubitId) Rule) → Scope
  scope_in names callables operands = record {
    means = meaning_in p names;
    units = λ text. pos 0;
    called = called_in callables;
    qubits = operand_in operands;
    open_gates = [];
  }
