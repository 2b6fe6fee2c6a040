-- What the walk and the run take from the expansion of a gate call: a list of instructions, or the first rule that is
-- broken, with what the expansion costs. The expansion itself is a parameter of the definitions that use it.
use Rattle.std.specs.Prelude.{List, ℤ, pos}
use Rattle.qq_base.specs.declared.run.Event.{Event}
use Rattle.qq_base.specs.declared.run.Event.TheVariants as event
use Rattle.qasm_ast.specs.Tree.{Change, Name, Trees, Operand}
use Rattle.qasm_types.specs.declared.ty.Ty.TheVariants as t
use Rattle.qasm_types.specs.Values.{Units}
use Rattle.scope_env.specs.OpenScopes.{OpenScopes}
use Rattle.const_eval.specs.Constant.{Constant}
use Rattle.const_eval.specs.Walk.{Walk}
use Rattle.const_eval.specs.Things.{Known, qubit_id}
use Rattle.gate_lists.specs.Instructions.{Instruction}
use Rattle.gate_lists.specs.Seen.{filled}

-- A call of a gate: its parts, and the value of each of its arguments. A constant is kept exactly; a run-time argument is a turn,
-- a number of units of 2^-32 turn. No rule rests on how great a turn is, so that 0 may stand for it where the call is walked.
pub record GateCall : Type 0 where
  pub changes : List Change
  pub name : Name
  pub arguments : Trees
  pub values : List Constant
  pub operands : List Operand

abbrev pub turn : ℤ → Constant
turn units = record { type = t.Turn; value = Units units }

-- the walk of the expansion of a call whose arguments are walked, where names stand for what they stand for
abbrev pub Expands : Type 0
Expands = OpenScopes Known → GateCall → Walk (List Instruction)

-- ---- what an instruction does

-- places behind the arguments and the qubits of an instruction hold 0
abbrev pub event_of : Instruction → Event
event_of i = event.Gate (record { 0 = i.gate }) (filled 4 (pos 0) i.arguments) (filled 3 (qubit_id 0) i.qubits)
