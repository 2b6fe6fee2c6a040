-- The text of a run: a line for each event, then one for each record, in their order, and then the fate.
use Rattle.std.specs.Prelude.{ℕ, zero, suc, Bool, true, false, List, [], ◌∷◌, ◌++◌, length, take, map, ℤ, Option, Some, None, slice_get, codes}
use Rattle.std.specs.List.{flat_map}
use Rattle.std.specs.Fmt.{decimal, signed_decimal}
use Rattle.qq_base.specs.declared.run.QubitId.{QubitId}
use Rattle.qq_base.specs.declared.run.Event.{Event}
use Rattle.qq_base.specs.declared.run.Event.TheVariants.{Gate, Reset, Measure}
use Rattle.qq_base.specs.declared.run.Record.{Record}
use Rattle.qq_base.specs.declared.run.Record.TheVariants.{Array, Int}
use Rattle.qq_base.specs.declared.run.Record.TheVariants.{Bool as Truth}
use Rattle.qq_base.specs.declared.run.Fate.{Fate}
use Rattle.qq_base.specs.declared.run.Fate.TheVariants as f
use Rattle.qq_base.specs.Seen.{Seen, Ending, Ended, Asked, Turning, Stuck}
use Rattle.gate_table.specs.Table.{TargetGate, gates}
use Rattle.qir_module.specs.Text.{line, escaped}

-- ---- events

-- an argument behind a comma
abbrev pub further_text : ℤ → List ℕ
further_text z = codes "," ++ signed_decimal z

-- the arguments of a gate in round brackets, with a comma between each two; nothing where it takes none
abbrev pub arguments_text : List ℤ → List ℕ
arguments_text [] = []
arguments_text (z ∷ zs) = codes "(" ++ signed_decimal z ++ flat_map further_text zs ++ codes ")"

-- a qubit behind a blank
abbrev pub qubit_text : QubitId → List ℕ
qubit_text q = codes " " ++ decimal q.0

-- the gate of the target table with those of the arguments and qubits that it takes; a number behind the table has no name
abbrev pub gate_text : Option TargetGate → List ℤ → List QubitId → List ℕ
gate_text None args qubits = []
gate_text (Some gate) args qubits = gate.name ++ arguments_text (take gate.params args) ++ flat_map qubit_text (take gate.qubits qubits)

-- 0 or 1
abbrev pub bit_text : Bool → List ℕ
bit_text false = codes "0"
bit_text true = codes "1"

abbrev pub event_line : Event → List ℕ
event_line (Gate gate args qubits) = line (codes "gate " ++ gate_text (slice_get gates gate.0) args qubits)
event_line (Reset qubit) = line (codes "reset" ++ qubit_text qubit)
event_line (Measure qubit outcome) = line (codes "measure" ++ qubit_text qubit ++ codes " = " ++ bit_text outcome)

-- ---- records

-- the items without the last one
abbrev pub without_last : List ℕ → List ℕ
without_last [] = []
without_last (c ∷ []) = []
without_last (c ∷ d ∷ cs) = c ∷ without_last (d ∷ cs)

-- a label without the zero byte at its end, escaped as in QIR text; a number behind the labels has none
abbrev pub label_text : Option (List ℕ) → List ℕ
label_text None = []
label_text (Some label) = flat_map escaped (without_last label)

module _ (labels : List (List ℕ)) where
  abbrev pub name_text : ℕ → List ℕ
  name_text label = label_text (slice_get labels label)

  -- a word and the name of a label, with a blank behind each
  abbrev pub start_text : List ℕ → ℕ → List ℕ
  start_text word label = word ++ codes " " ++ name_text label ++ codes " "

  abbrev pub record_line : Record → List ℕ
  record_line (Array label size) = line (start_text (codes "array") label ++ decimal size)
  record_line (Truth label value) = line (start_text (codes "bool") label ++ bit_text value)
  record_line (Int label value) = line (start_text (codes "int") label ++ signed_decimal value)

-- ---- the run

-- a module that passes is never stuck, and the word for it is shown by no run of one
abbrev pub fate_word : Ending → List ℕ
fate_word Ended = codes "ended"
fate_word Asked = codes "asked"
fate_word Turning = codes "turning"
fate_word Stuck = codes "stuck"

abbrev pub fate_line : Ending → List ℕ
fate_line fate = line (codes "fate " ++ fate_word fate)

abbrev pub shown : List (List ℕ) → Seen → List ℕ
shown labels seen = flat_map event_line seen.events ++ flat_map (record_line labels) seen.records ++ fate_line seen.fate

-- ---- how far a run came, in code

abbrev pub ending_of : Fate → Ending
ending_of f.Ended = Ended
ending_of f.Asked = Asked
ending_of f.Turning = Turning
