-- The text of a gate, by the columns of a table.
use Rattle.std.proofs.Common.{◌≡◌, refl, sym, ap, ◌∙◌, ℕ, ◌≤◌, ℤ, arith, List, [], ◌∷◌, ◌++◌, length, take, map, Option, Some, None, slice_get}
use Rattle.std.proofs.lemmas.Option.{slice_get-map, slice_get_past}
use Rattle.std.specs.List.{flat_map}
use Rattle.std.specs.Option.{option_map}
use Rattle.qq_base.specs.declared.run.QubitId.{QubitId}
use Rattle.gate_table.specs.declared.table.Row.{Row}
use Rattle.gate_table.specs.Table.{TargetGate}
use Rattle.run_text.specs.Shown.{arguments_text, qubit_text, gate_text}

abbrev row_of : TargetGate → Row
row_of gate = record { params = gate.params; qubits = gate.qubits }

-- the text of a gate by its name and what it takes
abbrev pub named_text : List ℕ → Row → List ℤ → List QubitId → List ℕ
named_text name row args qubits = name ++ arguments_text (take row.params args) ++ flat_map qubit_text (take row.qubits qubits)

named : (gate : Option TargetGate) (name : List ℕ) (row : Row) (args : List ℤ) (qubits : List QubitId) → Some name ≡ option_map (λ (g : TargetGate). g.name) gate → Some row ≡ option_map row_of gate
    → named_text name row args qubits ≡ gate_text gate args qubits
named None name row args qubits has_name has_row = cc
named (Some gate) name row args qubits has_name has_row =
    let same_name : name ≡ gate.name = cc in
    let same_row : row ≡ row_of gate = cc in
    ap (λ (n : List ℕ). named_text n row args qubits) same_name ∙ ap (λ (r : Row). named_text gate.name r args qubits) same_row

-- a gate of the table
pub gate_text_of : (table : List TargetGate) (k : ℕ) (name : List ℕ) (row : Row) (args : List ℤ) (qubits : List QubitId) → slice_get (map (λ (g : TargetGate). g.name) table) k ≡ Some name → slice_get (map row_of table) k ≡ Some row
    → named_text name row args qubits ≡ gate_text (slice_get table k) args qubits
gate_text_of table k name row args qubits has_name has_row =
    named (slice_get table k) name row args qubits (sym has_name ∙ slice_get-map (λ (g : TargetGate). g.name) table k) (sym has_row ∙ slice_get-map row_of table k)

-- a number behind the table
pub no_gate_text : (table : List TargetGate) (k : ℕ) (args : List ℤ) (qubits : List QubitId) → length table ≤ k → [] ≡ gate_text (slice_get table k) args qubits
no_gate_text table k args qubits h = sym (ap (λ (gate : Option TargetGate). gate_text gate args qubits) (slice_get_past table k h))

-- a gate that takes no arguments
pub no_arguments_text : (args : List ℤ) → length args ≡ 0 → [] ≡ arguments_text args
no_arguments_text [] is = refl
no_arguments_text (z ∷ zs) is = cc
