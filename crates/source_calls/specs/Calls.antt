-- The gate calls of a program: the expansion of `gate_flatten` where the open scopes of a walk or a run are these. What names mean
-- there and in the bodies of gates is what they stand for in the scopes (OpenQASM 3.0 specification, "Scoping of variables" and
-- "Hierarchically building gates").
--
-- A definition has a number by which the expansion knows it again: how many names had been declared before it, as far as they
-- are seen. So a gate has one number where a call stands and in the bodies that the call leads to.
use Rattle.std.specs.Prelude.{ℕ, suc, nat_eq, if◌then◌else◌, List, [], pos, Option, Some, None}
use Rattle.qq_base.specs.declared.refusal.Span.{Span}
use Rattle.qasm_ast.specs.declared.stmt.StmtId.{StmtId}
use Rattle.qasm_ast.specs.Tree.{Statement, gate, cut_off}
use Rattle.scope_env.specs.OpenScopes.{OpenScopes, Outside, Opened, Sealed, Named, find, since}
use Rattle.const_eval.specs.declared.environment.Callable.{Callable}
use Rattle.const_eval.specs.declared.environment.Callable.TheVariants as callable
use Rattle.const_eval.specs.Seen.{MeaningInside, HeldInside, CalledInside, NothingInside}
use Rattle.const_eval.specs.Things.{Known, Gate, Fixed, TargetRow, DefinedGate, means_in, named_qubits}
use Rattle.gate_arguments.specs.Scope.{Declarations, Scope}
use Rattle.gate_flatten.specs.Expand.{call_of, expansion}
use Rattle.source_meaning.specs.GateCalls.{Expands}

-- ---- the numbers of definitions

-- how many names are seen in these scopes
abbrev pub names_in : {A : Type 0} → OpenScopes A → ℕ
names_in Outside = 0
names_in (Opened outer) = names_in outer
names_in (Sealed seen callers) = names_in seen
names_in (Named x a rest) = suc (names_in rest)

-- how many names stand before the newest one
abbrev pub names_before : {A : Type 0} → OpenScopes A → ℕ
names_before (Named x a rest) = names_in rest
names_before scopes = names_in scopes

-- what stood when the name was declared before which so many stand, the name included
abbrev pub since_number : {A : Type 0} → ℕ → OpenScopes A → OpenScopes A
since_number n Outside = Outside
since_number n (Opened outer) = since_number n outer
since_number n (Sealed seen callers) = since_number n seen
since_number n (Named x a rest) = if nat_eq (names_in rest) n then Named x a rest else since_number n rest

-- the number of the definition of a name
abbrev pub number_of : {A : Type 0} → List ℕ → OpenScopes A → StmtId
number_of x scopes = record { 0 = names_before (since x scopes) }

-- ---- definitions

-- no rule of a call stands at the places of the definition itself
abbrev pub nowhere : Span
nowhere = record { line = 0; column = 0 }

-- a gate as the statement that defines it
abbrev pub definition_of : List ℕ → Gate → Statement
definition_of x g = gate (record { text = x; place = nowhere }) g.params g.qubits g.body nowhere nowhere

-- the newest name, where it is that of a gate
abbrev pub newest_definition : OpenScopes Known → Statement
newest_definition (Named x (DefinedGate g) rest) = definition_of x g
newest_definition scopes = cut_off

-- ---- what a name is

-- where it is called; a subroutine is no gate
abbrev pub callable_of : StmtId → Option Known → Callable
callable_of id None = callable.Unknown
callable_of id (Some (TargetRow row)) = callable.Row (record { 0 = row })
callable_of id (Some (DefinedGate g)) = callable.Defined id
callable_of id (Some _) = callable.Other

abbrev pub callable_in : OpenScopes Known → List ℕ → Callable
callable_in scopes x = callable_of (number_of x scopes) (find x scopes)

-- in the body of a gate, where constants and gates are seen and nothing else
abbrev pub inside_of : StmtId → Option Known → MeaningInside
inside_of id (Some (Fixed c)) = HeldInside c
inside_of id (Some (TargetRow row)) = CalledInside (callable.Row (record { 0 = row }))
inside_of id (Some (DefinedGate g)) = CalledInside (callable.Defined id)
inside_of id _ = NothingInside

abbrev pub inside_in : OpenScopes Known → List ℕ → MeaningInside
inside_in scopes x = inside_of (number_of x scopes) (find x scopes)

-- ---- calls

-- what is defined: the body of a gate sees what stood when the gate was declared, itself included
abbrev pub declarations_of : OpenScopes Known → Declarations
declarations_of scopes = record {
  definition = λ id. newest_definition (since_number id.0 scopes);
  inside = λ id x. inside_in (since_number id.0 scopes) x;
}

-- where the call stands
abbrev pub scope_of : OpenScopes Known → Scope
scope_of scopes = record {
  means = means_in scopes;
  units = λ x. pos 0;
  called = callable_in scopes;
  qubits = named_qubits scopes;
  open_gates = [];
}

-- the walk of a gate call whose arguments are walked: its instructions with what they cost, or the first rule that it breaks
abbrev pub expand : Expands
expand scopes call =
    expansion (declarations_of scopes) (scope_of scopes) (call_of call.changes call.name call.arguments call.operands) call.values
