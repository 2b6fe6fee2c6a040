-- Serves private contracts alone: what the code's arguments and scopes are seen as.
use Rattle.std.specs.Prelude.{ℕ, ◌<◌, Bool, true, false, not, List, [], ◌∷◌, ◌++◌, map, filter_map, slice_get, All, IsSome, IsSomeAnd, nat_eq, ℤ, pos, Option, Some, None, if◌then◌else◌, Result, Ok, Err}
use Rattle.std.specs.Map.{lookup}
use Rattle.std.specs.Option.{option_and_then, option_map, unwrap_or}
use Rattle.qq_base.specs.declared.rule.Rule.{Rule}
use Rattle.qq_base.specs.declared.refusal.Refusal.{Refusal}
use Rattle.qq_base.specs.declared.refusal.Span.{Span}
use Rattle.qq_base.specs.declared.rule.Rule.TheVariants.{Redeclared, WrongKind}
use Rattle.qq_base.specs.declared.run.QubitId.{QubitId}
use Rattle.qasm_ast.specs.declared.expr.OperandName.{OperandName}
use Rattle.qasm_ast.specs.declared.expr.OperandName.TheVariants as o
use Rattle.qasm_ast.specs.declared.stmt.Declared.{Declared}
use Rattle.qasm_ast.specs.declared.stmt.StmtId.{StmtId}
use Rattle.qasm_ast.specs.declared.expr.Base.{Base}
use Rattle.qasm_ast.specs.Tree.{Called, word, qubit, Maybe}
use Rattle.qasm_ast.specs.Whole.{Source}
use Rattle.qasm_ast.specs.View.{number_of}
use Rattle.qasm_types.specs.Values as value
use Rattle.alias_resolve.specs.Places.{Selected}
use Rattle.scope_env.specs.Scopes.{find, is_declared, declare}
use Rattle.const_eval.specs.declared.environment.Callable.{Callable}
use Rattle.const_eval.specs.declared.environment.Callable.TheVariants as callable
use Rattle.const_eval.specs.Constant.{Constant}
use Rattle.const_eval.specs.Meaning.{Meaning, Held, Running, OtherThing, meaning_in}
use Rattle.const_eval.specs.ConstantWalk.{type_walk}
use Rattle.const_eval.specs.Refusing.{where_allowed}
use Rattle.const_eval.specs.Walk.{Walk, behind, done, then_walk}
use Rattle.const_eval.specs.Seen.{MeaningInside, constant_of, is_same_operand, is_same_place}
use Rattle.gate_arguments.specs.declared.scope.Argument.{Argument}
use Rattle.gate_arguments.specs.declared.scope.Argument.TheVariants as kind
use Rattle.gate_arguments.specs.declared.scope.Body.{Body}
use Rattle.gate_arguments.specs.declared.scope.Given.{Given}
use Rattle.gate_arguments.specs.declared.scope.Given.TheVariants as gives
use Rattle.gate_arguments.specs.Answering.{QubitsFit}
use Rattle.gate_arguments.specs.Environment.{called_in, operand_in, inside_in}
use Rattle.gate_arguments.specs.Scope.{Scope, turn_of, meaning_around, called_around, qubits_around}

-- ---- walks

-- a cost, and nothing else
unfoldable pub cost_alone : ℕ → Walk (Unit {0})
cost_alone n = behind n (done tt)

-- the walk of a type that is written, whatever type it is
abbrev pub width_walk : (List ℕ → Meaning) → Base → Maybe → Span → Walk (Unit {0})
width_walk means base width place = then_walk (type_walk means true base place width) (λ _. done tt)

-- ---- arguments

-- an argument, where turns have these worths
abbrev pub argument_seen : (ℕ → ℤ) → Argument → Constant
argument_seen worths (kind.Constant c) = constant_of c
argument_seen worths (kind.Turn k) = turn_of (worths k)

abbrev pub arguments_seen : (ℕ → ℤ) → List Argument → List Constant
arguments_seen worths arguments = map (argument_seen worths) arguments

abbrev pub is_turn_argument : Argument → Bool
is_turn_argument (kind.Constant c) = false
is_turn_argument (kind.Turn k) = true

-- a turn is one of so many
abbrev pub ArgumentFits : ℕ → Argument → Type 0
ArgumentFits turns (kind.Constant c) = Unit {0}
ArgumentFits turns (kind.Turn k) = k < turns

-- ---- the parameters of a body, by the numbers of their names

abbrev pub meaning_of_argument : Option Argument → Meaning
meaning_of_argument (Some (kind.Constant c)) = Held (constant_of c)
meaning_of_argument (Some (kind.Turn k)) = Running
meaning_of_argument None = OtherThing

abbrev pub turn_of_argument : Option Argument → Option ℕ
turn_of_argument (Some (kind.Turn k)) = Some k
turn_of_argument _ = None

-- the units of an argument; they are asked of turns alone
abbrev pub units_of_argument : (ℕ → ℤ) → Option Argument → ℤ
units_of_argument worths (Some a) = value.number_of (argument_seen worths a).value
units_of_argument worths None = pos 0

-- what a parameter means, where the arguments are these
abbrev pub parameter_meaning : List Argument → Given → Meaning
parameter_meaning arguments (gives.Argument k) = meaning_of_argument (slice_get arguments k)
parameter_meaning arguments (gives.Qubit q) = OtherThing

abbrev pub parameter_turn : List Argument → Given → Option ℕ
parameter_turn arguments (gives.Argument k) = turn_of_argument (slice_get arguments k)
parameter_turn arguments (gives.Qubit q) = None

abbrev pub parameter_units : (ℕ → ℤ) → List Argument → Given → ℤ
parameter_units worths arguments (gives.Argument k) = units_of_argument worths (slice_get arguments k)
parameter_units worths arguments (gives.Qubit q) = pos 0

abbrev pub parameter_qubits : Given → Result (Selected QubitId) Rule
parameter_qubits (gives.Argument k) = Err WrongKind
parameter_qubits (gives.Qubit q) = Ok (record { items = q ∷ []; single = true })

-- a qubit of the code
abbrev pub one_seen : Result QubitId Rule → Result (Selected QubitId) Rule
one_seen (Ok q) = Ok (record { items = q ∷ []; single = true })
one_seen (Err rule) = Err rule

-- all names with what they are given
abbrev pub all_given : List (List (ℕ × Given)) → List (ℕ × Given)
all_given [] = []
all_given (scope ∷ outer) = scope ++ all_given outer

abbrev pub entries_with : {A B : Type 0} → (A → B) → List (ℕ × A) → List (ℕ × B)
entries_with {A} {B} f es = map {A = ℕ × A} {B = ℕ × B} (λ e. (e.0, f e.1)) es

-- what is made of the meanings of names in a definition
abbrev pub entry_around : {A : Type 0} → (MeaningInside → A) → StmtId → (ℕ × ℕ) × MeaningInside → Option (ℕ × A)
entry_around f def e = if nat_eq def.0 e.0.0 then Some (e.0.1, f e.1) else None

-- ---- scopes

-- The names of a scope: in a body its parameters first, and then what names mean there.
abbrev pub scope_names : List (ℕ × Meaning) → List ((ℕ × ℕ) × MeaningInside) → Option Body → List (ℕ × Meaning)
scope_names names inside None = names
scope_names names inside (Some b) = entries_with (parameter_meaning b.arguments.now) (all_given b.given) ++ filter_map (entry_around meaning_around b.def) inside

abbrev pub scope_callables : List (ℕ × Callable) → List ((ℕ × ℕ) × MeaningInside) → Option Body → List (ℕ × Callable)
scope_callables callables inside None = callables
scope_callables callables inside (Some b) = entries_with (λ _. callable.Other) (all_given b.given) ++ filter_map (entry_around called_around b.def) inside

-- the turn that a parameter is given
abbrev pub turn_in : Option Body → ℕ → Option ℕ
turn_in None n = None
turn_in (Some b) n = option_and_then (parameter_turn b.arguments.now) (find n b.given)

abbrev pub open_in : Option Body → List StmtId
open_in None = []
open_in (Some b) = b.def ∷ b.callers.items

module _ (p : Source) where
  abbrev pub units_in : (ℕ → ℤ) → Option Body → List ℕ → ℤ
  units_in worths None text = pos 0
  units_in worths (Some b) text = unwrap_or (option_map (parameter_units worths b.arguments.now) (option_and_then (λ n. find n b.given) (number_of p.names text))) (pos 0)

  -- the qubits of a parameter, or else what the name means around
  abbrev pub qubits_by : List ((ℕ × ℕ) × MeaningInside) → Body → Called → Result (Selected QubitId) Rule
  qubits_by inside b (word text) = unwrap_or (option_map parameter_qubits (option_and_then (λ n. find n b.given) (number_of p.names text))) (qubits_around (inside_in p inside b.def text))
  qubits_by inside b (qubit n) = Err WrongKind

  abbrev pub scope_qubits : List (OperandName × Result (Selected QubitId) Rule) → List ((ℕ × ℕ) × MeaningInside) → Option Body → Called → Result (Selected QubitId) Rule
  scope_qubits operands inside None = operand_in p operands
  scope_qubits operands inside (Some b) = qubits_by inside b

  -- A scope by the maps of its environment, where turns have these worths.
  abbrev pub scope_seen : (ℕ → ℤ) → List (ℕ × Meaning) → List (ℕ × Callable) → List (OperandName × Result (Selected QubitId) Rule) → List ((ℕ × ℕ) × MeaningInside) → Option Body → Scope
  scope_seen worths names callables operands inside body = record {
    means = meaning_in p (scope_names names inside body);
    units = units_in worths body;
    called = called_in p (scope_callables callables inside body);
    qubits = scope_qubits operands inside body;
    open_gates = open_in body;
  }

-- The scopes after names are declared in the innermost with what they are given, or the first name that is there already.
abbrev pub entered : List (List (ℕ × Given)) → List Declared → List Given → Result (List (List (ℕ × Given))) Refusal
entered scopes (d ∷ ds) (v ∷ vs) = where_allowed (not (is_declared d.name scopes)) Redeclared d.at (entered (declare d.name v scopes) ds vs)
entered scopes _ _ = Ok scopes

-- ---- what is asked of a scope

-- the parameters of a body are turns of so many, at most
abbrev pub TurnsFit : ℕ → Option Body → Type 0
TurnsFit turns None = ⊥
TurnsFit turns (Some b) = All (ArgumentFits turns) b.arguments.now

-- the environment answers for an operand of this name, with as many qubits as there may be
abbrev pub HasOperand : List (OperandName × Result (Selected QubitId) Rule) → List ((ℕ × ℕ) × MeaningInside) → Option Body → OperandName → Type 0
HasOperand operands inside None name = IsSomeAnd (lookup (is_same_operand name) operands) QubitsFit
HasOperand operands inside (Some b) (o.Name n) = IsSome (lookup (is_same_place (b.def.0, n)) inside)
HasOperand operands inside (Some b) (o.Hardware n) = Unit {0}
