-- What a thin program does: its run, the labels of its output records and the number of its qubits.
use Rattle.std.specs.Prelude.{ℕ, zero, suc, Bool, false, List, [], ◌∷◌, ◌++◌, length, replicate, slice_set, pos, codes}
use Rattle.qq_base.specs.declared.run.QubitId.{QubitId}
use Rattle.qq_base.specs.declared.run.Event.{Event}
use Rattle.qq_base.specs.declared.run.Event.TheVariants.{Gate, Measure as MeasureEvent}
use Rattle.qq_base.specs.declared.run.Record.{Record}
use Rattle.qq_base.specs.declared.run.Record.TheVariants.{Array, Bool as BoolRecord}
use Rattle.qq_base.specs.Seen.{Seen, Ended, event_then, with_outcome}
use Rattle.qq_tool.specs.declared.thin.ThinLine.{ThinLine}
use Rattle.qq_tool.specs.declared.thin.ThinLine.TheVariants.{Hadamard, Not, ControlledNot, Measure}
use Rattle.qq_tool.specs.Thin.{Thin, bit_text}

abbrev pub qubit_id : ℕ → QubitId
qubit_id n = record { 0 = n }

-- a gate without arguments, by its row in the target table; places behind its qubits hold 0
abbrev pub on_one : ℕ → ℕ → Event
on_one gate qubit = Gate (record { 0 = gate }) (replicate 4 (pos 0)) (qubit_id qubit ∷ qubit_id 0 ∷ qubit_id 0 ∷ [])

abbrev pub on_two : ℕ → ℕ → ℕ → Event
on_two gate first second = Gate (record { 0 = gate }) (replicate 4 (pos 0)) (qubit_id first ∷ qubit_id second ∷ qubit_id 0 ∷ [])

-- the record of each bit, labelled from the k-th label on
abbrev pub bit_records : ℕ → List Bool → List Record
bit_records k [] = []
bit_records k (bit ∷ bits) = BoolRecord k bit ∷ bit_records (suc k) bits

-- the bits in the end: an array record of their number, and then the record of each
abbrev pub recorded : List Bool → Seen
recorded bits = record { fate = Ended; events = []; records = Array 0 (length bits) ∷ bit_records 1 bits }

-- the lines that are left, from the bits as they are now
abbrev pub run_lines : List ThinLine → List Bool → List Bool → Seen
run_lines [] bits outcomes = recorded bits
run_lines (Hadamard qubit ∷ lines) bits outcomes = event_then (on_one 3 qubit) (run_lines lines bits outcomes)
run_lines (Not qubit ∷ lines) bits outcomes = event_then (on_one 0 qubit) (run_lines lines bits outcomes)
run_lines (ControlledNot control target ∷ lines) bits outcomes = event_then (on_two 15 control target) (run_lines lines bits outcomes)
run_lines (Measure qubit bit ∷ lines) bits outcomes =
    with_outcome outcomes (λ outcome others. event_then (MeasureEvent (qubit_id qubit) outcome) (run_lines lines (slice_set bits bit outcome) others))

-- The run of a thin program: all bits are 0 at first. It has no loop, so it spends no turn.
abbrev pub source_run : Thin → List Bool → ℕ → Seen
source_run p outcomes turns = run_lines p.lines (replicate p.bits false) outcomes

-- ---- labels, each with a zero byte at its end

abbrev pub label_of : List ℕ → List ℕ
label_of text = text ++ 0 ∷ []

-- the labels of n bits, from the k-th on
abbrev pub bit_labels : ℕ → ℕ → List (List ℕ)
bit_labels k zero = []
bit_labels k (suc n) = label_of (bit_text k) ∷ bit_labels (suc k) n

-- the label of the array, and then those of its bits
abbrev pub labels_of : Thin → List (List ℕ)
labels_of p = label_of (codes "c") ∷ bit_labels 0 p.bits
