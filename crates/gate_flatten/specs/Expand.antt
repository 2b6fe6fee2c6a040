-- What a call of a gate is: a list of instructions of the target table, or the first rule that is broken, with what the walk
-- of the call adds to the cost of its program. It is the expansion of gates of the OpenQASM 3.0 specification, "Quantum
-- instructions" and "Hierarchically building gates", down to this profile's target table.
--
-- A call is walked in this order: its arguments, its modifiers, its name; the number of its arguments and, for a gate of the
-- table, their units; its operands, their number, the lengths of its registers; and then each application.
use Rattle.std.specs.Prelude.{ℕ, zero, suc, ◌+◌, Bool, true, false, not, nat_eq, List, [], ◌∷◌, ◌++◌, length, take, drop, ℤ, Option, Some, None, Result, Ok}
use Rattle.qq_base.specs.declared.refusal.Refusal.{Refusal}
use Rattle.qq_base.specs.declared.refusal.Span.{Span}
use Rattle.qq_base.specs.declared.rule.Rule.TheVariants.{Unknown, WrongKind, ArgumentCount, Recursion, CallDepth}
use Rattle.qq_base.specs.declared.run.QubitId.{QubitId}
use Rattle.gate_table.specs.declared.table.Row.{Row}
use Rattle.gate_table.specs.Table.{row_of}
use Rattle.qasm_ast.specs.declared.stmt.StmtId.{StmtId}
use Rattle.qasm_ast.specs.Tree.{Name, Operand, Change, Trees, Statement, gate, gate_call, barrier, Statements, no_statement, a_statement}
use Rattle.const_eval.specs.declared.environment.Callable.{Callable}
use Rattle.const_eval.specs.declared.environment.Callable.TheVariants as callable
use Rattle.const_eval.specs.Constant.{Constant}
use Rattle.const_eval.specs.Refusing.{refused, where_allowed, go_on}
use Rattle.const_eval.specs.Walk.{Walk, asked, done, behind, then_walk, each_in_turn}
use Rattle.gate_lists.specs.Instructions.{Instruction, without_phases}
use Rattle.gate_arguments.specs.Scope.{Declarations, Scope, is_open, body_scope, given_to, names_differ}
use Rattle.gate_lists.specs.declared.modified.Modified.{Modified}
use Rattle.gate_lists.specs.Modifiers.{control_count, modified_list}
use Rattle.gate_flatten.specs.Modifiers.{modifiers_walk}
use Rattle.gate_flatten.specs.Applications.{Placed, placed_operands, times_of, applications, distinct}
use Rattle.gate_arguments.specs.Arguments.{arguments_walk, places_of, units_of_all}

-- ---- the gate that is called

pub data Gate : Type 0 where
  -- a gate of the target table, by its row
  TableGate : ℕ → Row → Gate
  -- a gate that the program defines, with its parameters, its qubits and its body
  DefinedGate : StmtId → List Name → List Name → Statements → Gate

abbrev pub of_table : Span → ℕ → Option Row → Result Gate Refusal
of_table place id None = refused Unknown place
of_table place id (Some row) = Ok (TableGate id row)

-- a subroutine is no gate
abbrev pub of_program : Span → StmtId → Statement → List StmtId → Result Gate Refusal
of_program place id (gate name params qubits body _ _) open_gates =
    where_allowed (not (is_open id open_gates)) Recursion place (Ok (DefinedGate id params qubits body))
of_program place id _ open_gates = refused WrongKind place

abbrev pub gate_called : Declarations → List StmtId → Span → Callable → Result Gate Refusal
gate_called declared open_gates place (callable.Row id) = of_table place id.0 (row_of id.0)
gate_called declared open_gates place (callable.Defined id) = of_program place id (declared.definition id) open_gates
gate_called declared open_gates place callable.Other = refused WrongKind place
gate_called declared open_gates place callable.Unknown = refused Unknown place

-- ---- the gate with its arguments

pub data Ready : Type 0 where
  -- a gate of the table, by its row, with the number of its qubits and its arguments in units
  TableReady : ℕ → ℕ → List ℤ → Ready
  -- a gate that the program defines, with its parameters, its qubits, its body and its arguments
  DefinedReady : StmtId → List Name → List Name → Statements → List Constant → Ready

-- A gate takes as many arguments as it has parameters. Those of a gate of the table are brought to units.
abbrev pub ready : Span → List Span → List Constant → Gate → Result Ready Refusal
ready name places arguments (TableGate id row) =
    where_allowed (nat_eq (length arguments) row.params) ArgumentCount name (
    go_on (units_of_all places arguments) (λ units.
    Ok (TableReady id row.qubits units)))
ready name places arguments (DefinedGate id params names body) =
    where_allowed (nat_eq (length arguments) (length params)) ArgumentCount name (
    Ok (DefinedReady id params names body arguments))

abbrev pub qubit_count : Ready → ℕ
qubit_count (TableReady id qubits units) = qubits
qubit_count (DefinedReady id params names body arguments) = length names

-- ---- its list

-- `member` is the walk of a statement of the body. Each costs 1, and what it walks.
abbrev pub body_list : (Statement → Walk (List Instruction)) → Statements → Walk (List Instruction)
body_list member no_statement = done []
body_list member (a_statement s ss) =
    then_walk (behind 1 (member s)) (λ is.
    then_walk (body_list member ss) (λ js.
    done (is ++ js)))

-- `member` is the walk of a statement in the scope of a body, and `open_gates` are the gates whose calls are open
module _ (declared : Declarations) (member : Scope → Statement → Walk (List Instruction)) (open_gates : List StmtId) where
  -- The list of a gate on its qubits. A gate of the table is one instruction, which costs 1. The names of parameters are
  -- entered where the body begins.
  abbrev pub gate_list : Ready → List QubitId → Walk (List Instruction)
  gate_list (TableReady id count units) qubits = behind 1 (done (record { gate = id; arguments = units; qubits = qubits } ∷ []))
  gate_list (DefinedReady id params names body arguments) qubits =
      then_walk (asked (names_differ [] (params ++ names))) (λ _.
      body_list (member (body_scope declared open_gates id (given_to params arguments names qubits))) body)

  -- The list of a gate under modifiers, on qubits of which those of the controls come first: it is made once, and then the
  -- modifiers act on it.
  abbrev pub list_on : Ready → List Modified → List QubitId → Walk (List Instruction)
  list_on made modifiers qubits =
      then_walk (gate_list made (drop (control_count modifiers) qubits)) (λ is.
      modified_list modifiers (take (control_count modifiers) qubits) is)

  -- one application: its qubits are distinct
  abbrev pub applied : Ready → List Modified → List (Placed QubitId) → Walk (List Instruction)
  applied made modifiers qubits =
      then_walk (asked (distinct [] qubits)) (λ qs.
      list_on made modifiers qs)

-- ---- calls

-- A call, apart from its arguments: its modifiers, its name, the places of its arguments, and its operands.
pub record Call : Type 0 where
  pub changes : List Change
  pub name : Name
  pub places : List Span
  pub operands : List Operand

abbrev pub call_of : List Change → Name → Trees → List Operand → Call
call_of changes name arguments operands = record { changes = changes; name = name; places = places_of arguments; operands = operands }

module _ (declared : Declarations) where
  -- A call whose arguments are walked, where `member` is the walk of a statement in the body of the called gate. Calls are
  -- open at most so deep, which is asked of the called name, last.
  abbrev pub called : (Scope → Statement → Walk (List Instruction)) → Bool → Scope → Call → List Constant → Walk (List Instruction)
  called member is_allowed scope call arguments =
      then_walk (modifiers_walk scope.means call.changes) (λ modifiers.
      then_walk (asked (gate_called declared scope.open_gates call.name.place (scope.called call.name.text))) (λ found.
      then_walk (asked (where_allowed is_allowed CallDepth call.name.place (Ok found))) (λ found.
      then_walk (asked (ready call.name.place call.places arguments found)) (λ made.
      then_walk (placed_operands scope.means scope.qubits call.operands) (λ operands.
      then_walk (asked (where_allowed (nat_eq (length operands) (control_count modifiers + qubit_count made)) ArgumentCount call.name.place (times_of operands))) (λ times.
      each_in_turn (applied declared member scope.open_gates made modifiers) (applications times operands)))))))

  -- a statement in the body of a gate: a call, whose arguments come first, or a `barrier`, which gives nothing
  abbrev pub member_list : (Scope → Call → List Constant → Walk (List Instruction)) → Scope → Statement → Walk (List Instruction)
  member_list go scope (gate_call changes name arguments operands _ _) =
      then_walk (arguments_walk scope arguments) (λ cs.
      go scope (call_of changes name arguments operands) cs)
  member_list go scope (barrier operands _ _) = then_walk (placed_operands scope.means scope.qubits operands) (λ _. done [])
  member_list go scope _ = done []

  -- a call where so many calls may be open, this one among them
  unfoldable pub call_list : ℕ → Scope → Call → List Constant → Walk (List Instruction)
  call_list zero = called (λ scope s. done []) false
  call_list (suc levels) = called (member_list (call_list levels)) true

  -- The list of a call whose arguments are walked. At most 64 calls are open. A `gphase` that is left at the end is dropped.
  abbrev pub expansion : Scope → Call → List Constant → Walk (List Instruction)
  expansion scope call arguments = then_walk (call_list 64 scope call arguments) (λ is. done (without_phases is))
