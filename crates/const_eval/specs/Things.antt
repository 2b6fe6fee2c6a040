-- What names stand for in a program. A variable has a content that differs with the use of the scopes: nothing where a
-- program is walked, a value where it runs.
use Rattle.std.specs.Prelude.{ℕ, nat_le, nat_lt, Bool, true, false, if◌then◌else◌, List, [], ◌∷◌, length, map, Option, Some, None, Result, Ok, Err}
use Rattle.std.specs.List.{range_with_len}
use Rattle.qq_base.specs.declared.refusal.Span.{Span}
use Rattle.qq_base.specs.declared.rule.Rule.{Rule}
use Rattle.qq_base.specs.declared.rule.Rule.TheVariants.{Unknown, WrongKind, MixedQubits, QubitRange}
use Rattle.qq_base.specs.declared.run.QubitId.{QubitId}
use Rattle.qasm_ast.specs.Tree.{Called, word, qubit, Name, Scalar, Parameter, Statements}
use Rattle.qasm_types.specs.declared.ty.Ty.{Ty}
use Rattle.qasm_types.specs.declared.ty.Ty.TheVariants as t
use Rattle.qasm_types.specs.Types.{cells_of}
use Rattle.alias_resolve.specs.Places.{Selected}
use Rattle.scope_env.specs.OpenScopes.{OpenScopes, find, total, map_scopes}
use Rattle.const_eval.specs.Constant.{Constant}
use Rattle.const_eval.specs.Meaning.{Meaning, Held, Running, OtherThing, Nothing}

-- a definition, as it is written
pub record Gate : Type 0 where
  pub params : List Name
  pub qubits : List Name
  pub body : Statements

pub record Subroutine : Type 0 where
  pub params : List Parameter
  pub result : Option Scalar
  pub body : Statements
  -- the place of its closing brace
  pub close : Span

pub data Thing (A : Type 0) : Type 0 where
  -- a constant: a `const` name, the variable of a static `for`, or a predefined number
  Fixed : (c : Constant) → Thing A
  -- a variable of a type
  Variable : (type : Ty) (content : A) → Thing A
  -- the variable of a running `for`, which is never assigned
  Counter : (type : Ty) (content : A) → Thing A
  -- a qubit, or a register of qubits, that is declared
  Qubits : (selected : Selected QubitId) → Thing A
  -- another name for qubits: that of a `let`, or a parameter
  Alias : (selected : Selected QubitId) → Thing A
  -- a row of the target table
  TargetRow : (row : ℕ) → Thing A
  DefinedGate : (gate : Gate) → Thing A
  DefinedSubroutine : (subroutine : Subroutine) → Thing A

-- ---- kinds

-- what the body of a subroutine sees of the globals: constants, gates and subroutines
abbrev pub is_seen_in_subroutine : {A : Type 0} → Thing A → Bool
is_seen_in_subroutine (Fixed c) = true
is_seen_in_subroutine (TargetRow row) = true
is_seen_in_subroutine (DefinedGate g) = true
is_seen_in_subroutine (DefinedSubroutine f) = true
is_seen_in_subroutine _ = false

-- what the body of a gate sees of them: constants and gates
abbrev pub is_seen_in_gate : {A : Type 0} → Thing A → Bool
is_seen_in_gate (Fixed c) = true
is_seen_in_gate (TargetRow row) = true
is_seen_in_gate (DefinedGate g) = true
is_seen_in_gate _ = false

-- what may be assigned
abbrev pub is_variable : {A : Type 0} → Thing A → Bool
is_variable (Variable type v) = true
is_variable _ = false

-- ---- names of values

abbrev pub meaning_of_thing : {A : Type 0} → Option (Thing A) → Meaning
meaning_of_thing None = Nothing
meaning_of_thing (Some (Fixed c)) = Held c
meaning_of_thing (Some (Variable type v)) = Running
meaning_of_thing (Some (Counter type v)) = Running
meaning_of_thing (Some _) = OtherThing

-- what a name means in an expression
abbrev pub means_in : {A : Type 0} → OpenScopes (Thing A) → List ℕ → Meaning
means_in scopes text = meaning_of_thing (find text scopes)

-- the type of a run-time value; of anything else no walk asks it, and `bool` stands for it
abbrev pub running_type : {A : Type 0} → Option (Thing A) → Ty
running_type (Some (Variable type v)) = type
running_type (Some (Counter type v)) = type
running_type _ = t.Bool

-- the type of the run-time value that a name stands for
abbrev pub types_in : {A : Type 0} → OpenScopes (Thing A) → List ℕ → Ty
types_in scopes text = running_type (find text scopes)

-- ---- cells

-- the cells of a thing: those of a variable's type, three of a running `for`
abbrev pub cells_of_thing : {A : Type 0} → Thing A → ℕ
cells_of_thing (Variable type v) = cells_of type
cells_of_thing (Counter type v) = 3
cells_of_thing _ = 0

-- the cells in scope: those of all open scopes, of the calling frames and of the globals declared so far
abbrev pub cells_in_scope : {A : Type 0} → OpenScopes (Thing A) → ℕ
cells_in_scope scopes = total cells_of_thing scopes

-- ---- qubits

-- the qubits that a thing declares, and all that are declared so far
abbrev pub declared_by : {A : Type 0} → Thing A → ℕ
declared_by (Qubits s) = length s.items
declared_by _ = 0

abbrev pub declared_qubits : {A : Type 0} → OpenScopes (Thing A) → ℕ
declared_qubits scopes = total declared_by scopes

abbrev pub qubit_id : ℕ → QubitId
qubit_id n = record { 0 = n }

-- so many qubits get the next ids
abbrev pub next_qubits : ℕ → ℕ → List QubitId
next_qubits from n = map qubit_id (range_with_len from n)

-- a qubit alone
abbrev pub one_qubit : ℕ → Selected QubitId
one_qubit n = record { items = qubit_id n ∷ []; single = true }

abbrev pub qubits_of_thing : {A : Type 0} → Option (Thing A) → Result (Selected QubitId) Rule
qubits_of_thing None = Err Unknown
qubits_of_thing (Some (Qubits s)) = Ok s
qubits_of_thing (Some (Alias s)) = Ok s
qubits_of_thing (Some _) = Err WrongKind

-- of `$n`: a program that declares qubits has none, and n is at most 1,023
abbrev pub qubit_of_wire : Bool → ℕ → Result (Selected QubitId) Rule
qubit_of_wire true n = Err MixedQubits
qubit_of_wire false n = if nat_le n 1023 then Ok (one_qubit n) else Err QubitRange

-- the qubits that an operand names, before its brackets, or the rule that the name breaks
abbrev pub named_qubits : {A : Type 0} → OpenScopes (Thing A) → Called → Result (Selected QubitId) Rule
named_qubits scopes (word text) = qubits_of_thing (find text scopes)
named_qubits scopes (qubit n) = qubit_of_wire (nat_lt 0 (declared_qubits scopes)) n

-- ---- contents

-- the same thing with another content
abbrev pub map_content : {A B : Type 0} → (A → B) → Thing A → Thing B
map_content f (Fixed c) = Fixed c
map_content f (Variable type v) = Variable type (f v)
map_content f (Counter type v) = Counter type (f v)
map_content f (Qubits s) = Qubits s
map_content f (Alias s) = Alias s
map_content f (TargetRow row) = TargetRow row
map_content f (DefinedGate g) = DefinedGate g
map_content f (DefinedSubroutine s) = DefinedSubroutine s

-- what is known of a name before the run
abbrev pub Known : Type 0
Known = Thing (Unit {0})

abbrev pub no_content : {A : Type 0} → A → Unit {0}
no_content v = tt

abbrev pub known : {A : Type 0} → OpenScopes (Thing A) → OpenScopes Known
known scopes = map_scopes (map_content no_content) scopes
