-- Which instructions the members of a list stand for.
use Rattle.std.specs.Prelude.{ℕ, List, map, take, All, ℤ}
use Rattle.gate_lists.specs.declared.member.Member.{Member}
use Rattle.gate_lists.specs.Amounts.{units_in, IsNamed, params_of, qubits_of}
use Rattle.gate_lists.specs.Instructions.{Instruction}

-- what stands behind the arguments and qubits of the gate means nothing
abbrev pub instruction_in : (ℕ → ℤ) → Member → Instruction
instruction_in worths m = record {
  gate = m.gate.0;
  arguments = map (units_in worths) (take (params_of m.gate.0) m.args);
  qubits = take (qubits_of m.gate.0) m.qubits;
}

abbrev pub instructions_in : (ℕ → ℤ) → List Member → List Instruction
instructions_in worths members = map (instruction_in worths) members

-- the turns of members are turns of a list with so many
abbrev pub AreNamed : ℕ → List Member → Type 0
AreNamed turns members = All (λ (m : Member). All (IsNamed turns) m.args) members
