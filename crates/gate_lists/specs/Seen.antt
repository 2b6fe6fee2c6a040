-- What the instructions of an answer are seen as: the units of their arguments, where the arguments of the call have these units.
use Rattle.std.specs.Prelude.{ℕ, ◌-◌, List, ◌++◌, map, replicate, length, ℤ, Option, Some, None}
use Rattle.qq_base.specs.declared.run.QubitId.{QubitId}
use Rattle.gate_lists.specs.declared.expansion.Expansion.{Expansion}
use Rattle.gate_lists.specs.declared.expansion.GateArg.{GateArg}
use Rattle.gate_lists.specs.declared.expansion.GateArg.TheVariants as arg
use Rattle.gate_lists.specs.declared.expansion.LeafCall.{LeafCall}
use Rattle.gate_lists.specs.Instructions.{Instruction}
use Rattle.gate_lists.specs.Turns.{worth_at}

-- one application of a gate, with its units at each place that has an argument
pub record Leaf : Type 0 where
  pub gate : ℕ
  pub arguments : List (Option ℤ)
  pub qubits : List QubitId

abbrev pub argument_in : (ℕ → ℤ) → GateArg → Option ℤ
argument_in worths arg.Unused = None
argument_in worths (arg.Units z) = Some z
argument_in worths (arg.Running k) = Some (worths k)

abbrev pub leaf_in : (ℕ → ℤ) → LeafCall → Leaf
leaf_in worths call = record { gate = call.gate.0; arguments = map (argument_in worths) call.args; qubits = call.qubits }

pub record Expanded : Type 0 where
  pub leaves : List Leaf
  pub cost : ℕ

-- an answer, where the arguments of the call have these units
abbrev pub seen_expansion : (ℕ → ℤ) → Expansion → Expanded
seen_expansion given e = record { leaves = map (leaf_in (worth_at given e.turns.items)) e.calls.items; cost = e.cost }

-- ---- what is due

-- a list with something at each further place, up to so many
abbrev pub filled : {A : Type 0} → ℕ → A → List A → List A
filled n a as' = as' ++ replicate (n - length as') a

-- an instruction has four places for arguments and three for qubits
abbrev pub leaf_of : Instruction → Leaf
leaf_of i = record { gate = i.gate; arguments = filled 4 None (map Some i.arguments); qubits = filled 3 (record { 0 = 0 }) i.qubits }
