-- What the modifiers of a call do to the list of its gate: `inv @`, `pow(k) @`, `ctrl @` and `ctrl(n) @`, as in the OpenQASM 3.0
-- specification, "Quantum instructions". The leftmost is applied last, and its controls are the first operands.
use Rattle.std.specs.Prelude.{ℕ, ◌+◌, List, [], ◌∷◌, take, drop}
use Rattle.qq_base.specs.declared.run.QubitId.{QubitId}
use Rattle.const_eval.specs.Walk.{Walk, asked, done, then_walk}
use Rattle.gate_lists.specs.declared.modified.Modified.{Modified}
use Rattle.gate_lists.specs.declared.modified.Modified.TheVariants as m
use Rattle.gate_lists.specs.Instructions.{Instruction, inverse_list, under_controls, power_list}

-- how many operands are controls of a modifier, and of all modifiers
abbrev pub controls_of : Modified → ℕ
controls_of (m.Controls n place) = n
controls_of _ = 0

abbrev pub control_count : List Modified → ℕ
control_count [] = 0
control_count (m ∷ ms) = controls_of m + control_count ms

-- what one modifier with its controls makes of a list
abbrev pub changed_list : Modified → List QubitId → List Instruction → Walk (List Instruction)
changed_list (m.Inverse place) controls is = asked (inverse_list place is)
changed_list (m.Power k place) controls is = power_list place k is
changed_list (m.Controls n place) controls is = asked (under_controls place controls is)

-- What modifiers make of a list, from right to left. `controls` are the qubits of all of them, those of the leftmost first.
abbrev pub modified_list : List Modified → List QubitId → List Instruction → Walk (List Instruction)
modified_list [] controls is = done is
modified_list (m ∷ ms) controls is =
    then_walk (modified_list ms (drop (controls_of m) controls) is) (changed_list m (take (controls_of m) controls))
