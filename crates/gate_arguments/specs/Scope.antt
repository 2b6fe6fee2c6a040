-- What names mean where a gate is called: among the declarations of a program, and in the body of a gate. The scopes are
-- those of the OpenQASM 3.0 specification, "Scoping of variables": a gate's body sees its parameters, and the constants and
-- gates that were declared before it.
use Rattle.std.specs.Prelude.{ℕ, Bool, true, false, not, List, [], ◌∷◌, ◌++◌, map, zip, nat_eq, ℤ, pos, Option, Some, None, Result, Ok, Err}
use Rattle.std.specs.List.{list_any}
use Rattle.std.specs.Map.{lookup}
use Rattle.std.specs.Str.{bytes_eq}
use Rattle.qq_base.specs.declared.refusal.Refusal.{Refusal}
use Rattle.qq_base.specs.declared.rule.Rule.{Rule}
use Rattle.qq_base.specs.declared.rule.Rule.TheVariants.{Unknown, Redeclared, WrongKind}
use Rattle.qq_base.specs.declared.run.QubitId.{QubitId}
use Rattle.qasm_ast.specs.declared.stmt.StmtId.{StmtId}
use Rattle.qasm_ast.specs.Tree.{Called, word, qubit, Name, Statement}
use Rattle.qasm_types.specs.declared.ty.Ty.{Ty}
use Rattle.qasm_types.specs.declared.ty.Ty.TheVariants as t
use Rattle.qasm_types.specs.Values.{Units, number_of}
use Rattle.alias_resolve.specs.Places.{Selected}
use Rattle.const_eval.specs.declared.environment.Callable.{Callable}
use Rattle.const_eval.specs.declared.environment.Callable.TheVariants as callable
use Rattle.const_eval.specs.Constant.{Constant}
use Rattle.const_eval.specs.Meaning.{Meaning, Held, Running, OtherThing, Nothing}
use Rattle.const_eval.specs.Refusing.{where_allowed}
use Rattle.const_eval.specs.Seen.{MeaningInside, HeldInside, CalledInside, NothingInside}
use Rattle.gate_lists.specs.Units.{word_of}

-- ---- the values of arguments

-- An argument of a gate is a constant, which is kept exactly, or a turn: a number of units that is known when the program
-- runs. It has the value that it has there, as a word of 64 bits.
abbrev pub turn_of : ℤ → Constant
turn_of z = record { type = t.Turn; value = Units (word_of z) }

abbrev pub is_turn : Constant → Bool
is_turn c = of c.type
  where
    of : Ty → Bool
    of t.Turn = true
    of _ = false

-- ---- what is declared

-- the statement that each definition is, and what a name that is no parameter means in the definition's body
pub record Declarations : Type 0 where
  pub definition : StmtId → Statement
  pub inside : StmtId → List ℕ → MeaningInside

-- what names mean at a place
pub record Scope : Type 0 where
  -- in expressions
  pub means : List ℕ → Meaning
  -- the units of run-time parameters
  pub units : List ℕ → ℤ
  -- where they are called
  pub called : List ℕ → Callable
  -- as operands, before their index brackets: the qubits, or the rule that the name breaks
  pub qubits : Called → Result (Selected QubitId) Rule
  -- the gates whose calls are open
  pub open_gates : List StmtId

abbrev pub is_open : StmtId → List StmtId → Bool
is_open id open_gates = list_any (λ (other : StmtId). nat_eq other.0 id.0) open_gates

-- ---- the body of a gate

-- what a parameter is given
pub data Given : Type 0 where
  Argument : Constant → Given
  Qubit : QubitId → Given

abbrev pub meaning_given : Given → Meaning
meaning_given (Argument c) = of (is_turn c) c
  where
    of : Bool → Constant → Meaning
    of true c = Running
    of false c = Held c
meaning_given (Qubit q) = OtherThing

abbrev pub units_given : Given → ℤ
units_given (Argument c) = number_of c.value
units_given (Qubit q) = pos 0

-- a parameter for angles is no qubit
abbrev pub qubits_given : Given → Result (Selected QubitId) Rule
qubits_given (Argument c) = Err WrongKind
qubits_given (Qubit q) = Ok (record { items = q ∷ []; single = true })

abbrev pub meaning_around : MeaningInside → Meaning
meaning_around (HeldInside c) = Held c
meaning_around (CalledInside callable.Unknown) = Nothing
meaning_around (CalledInside _) = OtherThing
meaning_around NothingInside = Nothing

abbrev pub called_around : MeaningInside → Callable
called_around (HeldInside c) = callable.Other
called_around (CalledInside c) = c
called_around NothingInside = callable.Unknown

-- no qubits are seen from outside
abbrev pub qubits_around : MeaningInside → Result (Selected QubitId) Rule
qubits_around NothingInside = Err Unknown
qubits_around (CalledInside callable.Unknown) = Err Unknown
qubits_around _ = Err WrongKind

-- what is made of a parameter, or else of what the name means around
abbrev pub parameter_or : {A : Type 0} → (Given → A) → Option Given → A → A
parameter_or f (Some given) around = f given
parameter_or f None around = around

abbrev pub parameter : List (List ℕ × Given) → List ℕ → Option Given
parameter given text = lookup (bytes_eq text) given

-- a `$n` is nothing that a gate's body may name
abbrev pub body_qubits : List (List ℕ × Given) → (List ℕ → MeaningInside) → Called → Result (Selected QubitId) Rule
body_qubits given inside (word text) = parameter_or qubits_given (parameter given text) (qubits_around (inside text))
body_qubits given inside (qubit n) = Err WrongKind

-- the scope of a gate's body, in a call that gives its parameters these values; the calls of other gates are open around
abbrev pub body_scope : Declarations → List StmtId → StmtId → List (List ℕ × Given) → Scope
body_scope declared open_gates id given = record {
  means = λ text. parameter_or meaning_given (parameter given text) (meaning_around (declared.inside id text));
  units = λ text. parameter_or units_given (parameter given text) (pos 0);
  called = λ text. parameter_or (λ _. callable.Other) (parameter given text) (called_around (declared.inside id text));
  qubits = body_qubits given (declared.inside id);
  open_gates = id ∷ open_gates;
}

-- each parameter with what it is given, in the order of the text
abbrev pub given_to : List Name → List Constant → List Name → List QubitId → List (List ℕ × Given)
given_to params arguments names qubits =
    zip (map (λ (name : Name). name.text) params) (map Argument arguments)
    ++ zip (map (λ (name : Name). name.text) names) (map Qubit qubits)

-- names stand once in a scope: the first that stands in front of itself is refused
abbrev pub names_differ : List (List ℕ) → List Name → Result (Unit {0}) Refusal
names_differ before [] = Ok tt
names_differ before (name ∷ names) =
    where_allowed (not (list_any (bytes_eq name.text) before)) Redeclared name.place (names_differ (name.text ∷ before) names)
