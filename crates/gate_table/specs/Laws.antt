-- Laws of the target table.
use Rattle.std.specs.Prelude.{◌≡◌, ◌≢◌, ℕ, ◌+◌, ◌<◌, List, map, ℤ, Option, Some, None, AllPairs, slice_index}
use Rattle.qq_base.specs.declared.run.GateId.{GateId}
use Rattle.gate_table.specs.declared.table.Row.{Row}
use Rattle.gate_table.specs.declared.table.InvRow.{InvRow}
use Rattle.gate_table.specs.declared.table.CtlRow.{CtlRow}
use Rattle.gate_table.specs.Table.{row_of, inverse_of, control_of, source_names, gate_named}

abbrev pub Differ : List (List ℕ) → Type 0
Differ names = AllPairs (λ a b. a ≢ b) names

abbrev pub all_source_names : List (List ℕ)
all_source_names = map (λ (entry : List ℕ × ℕ). entry.0) source_names

-- The inverse of the inverse is the gate, with its arguments at their places: argument k of the second is minus
-- argument `second.order[k]` of the first, which is minus that argument of the gate.
abbrev pub IsGateAgain : ℕ → InvRow → InvRow → Type 0
IsGateAgain gate first second = (second.gate.0 ≡ gate) × ((k : ℕ) → k < 4 → slice_index first.order (slice_index second.order k) ≡ k)

abbrev pub InversesReturn : Type 0
InversesReturn = (gate : ℕ) (first second : InvRow) → inverse_of gate ≡ Some first → inverse_of first.gate.0 ≡ Some second → IsGateAgain gate first second

-- the inverse takes what the gate takes
abbrev pub InversesTakeTheSame : Type 0
InversesTakeTheSame = (gate : ℕ) (inverse : InvRow) → inverse_of gate ≡ Some inverse → row_of inverse.gate.0 ≡ row_of gate

-- a control takes the arguments of the gate, or one in place of none
abbrev pub TakesArguments : Option ℤ → ℕ → ℕ → Type 0
TakesArguments None params under = under ≡ params
TakesArguments (Some turn) params under = (params ≡ 0) × (under ≡ 1)

-- the row of a gate under a control has exactly one qubit more than the row of the gate
abbrev pub IsUnderControl : Row → CtlRow → Row → Type 0
IsUnderControl row control under = (under.qubits ≡ row.qubits + 1) × TakesArguments control.turn row.params under.params

abbrev pub ControlsAddAQubit : Type 0
ControlsAddAQubit =
    (gate : ℕ) (control : CtlRow) → control_of gate ≡ Some control
    → (row under : Row) × (row_of gate ≡ Some row) × (row_of control.gate.0 ≡ Some under) × IsUnderControl row control under

-- what the table and the names give is a gate of the table
abbrev pub InversesAreGates : Type 0
InversesAreGates = (gate : ℕ) (inverse : InvRow) → inverse_of gate ≡ Some inverse → inverse.gate.0 < 31

abbrev pub NamesAreGates : Type 0
NamesAreGates = (name : List ℕ) (gate : GateId) → gate_named name ≡ Some gate → gate.0 < 31
