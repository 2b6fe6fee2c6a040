-- Texts of the thin form, a part of OpenQASM 3.0: four lines that declare a register of qubits and one of
-- bits, and then gates and kept measurements, each on a line of its own.
use Rattle.std.specs.Prelude.{ℕ, ◌<◌, ◌≤◌, ◌≡◌, ◌≢◌, List, ◌++◌, length, codes}
use Rattle.std.specs.List.{flat_map, AllByRecursion}
use Rattle.std.specs.Fmt.{decimal}
use Rattle.qir_module.specs.Text.{line}
use Rattle.qq_tool.specs.declared.thin.ThinLine.{ThinLine}
use Rattle.qq_tool.specs.declared.thin.ThinLine.TheVariants.{Hadamard, Not, ControlledNot, Measure}

pub record Thin : Type 0 where
  pub qubits : ℕ
  pub bits : ℕ
  pub lines : List ThinLine

-- a place of a register, as `q[3]`
abbrev pub place_text : List ℕ → ℕ → List ℕ
place_text register n = register ++ codes "[" ++ decimal n ++ codes "]"

abbrev pub qubit_text : ℕ → List ℕ
qubit_text n = place_text (codes "q") n

abbrev pub bit_text : ℕ → List ℕ
bit_text n = place_text (codes "c") n

abbrev pub line_text : ThinLine → List ℕ
line_text (Hadamard qubit) = line (codes "h " ++ qubit_text qubit ++ codes ";")
line_text (Not qubit) = line (codes "x " ++ qubit_text qubit ++ codes ";")
line_text (ControlledNot control target) = line (codes "cx " ++ qubit_text control ++ codes ", " ++ qubit_text target ++ codes ";")
line_text (Measure qubit bit) = line (bit_text bit ++ codes " = measure " ++ qubit_text qubit ++ codes ";")

-- the declarations, with the sizes of the two registers
abbrev pub header_text : ℕ → ℕ → List ℕ
header_text qubits bits =
    line (codes "OPENQASM 3.0;")
    ++ line (codes "include \"stdgates.inc\";")
    ++ line (codes "qubit[" ++ decimal qubits ++ codes "] q;")
    ++ line (codes "bit[" ++ decimal bits ++ codes "] c;")

-- the one text of a thin program
abbrev pub thin_text : Thin → List ℕ
thin_text p = header_text p.qubits p.bits ++ flat_map line_text p.lines

-- qubits and bits are in their registers, and the two of one gate differ
abbrev pub IsWithin : ℕ → ℕ → ThinLine → Type 0
IsWithin qubits bits (Hadamard qubit) = qubit < qubits
IsWithin qubits bits (Not qubit) = qubit < qubits
IsWithin qubits bits (ControlledNot control target) = (control < qubits) × (target < qubits) × (control ≢ target)
IsWithin qubits bits (Measure qubit bit) = (qubit < qubits) × (bit < bits)

pub record IsThin (p : Thin) : Type 0 where
  pub some_qubits : 1 ≤ p.qubits
  pub few_qubits : p.qubits ≤ 1024
  pub some_bits : 1 ≤ p.bits
  pub few_bits : p.bits ≤ 4096
  pub few_lines : length p.lines ≤ 10000
  pub within : AllByRecursion (IsWithin p.qubits p.bits) p.lines

-- the bytes are the text of this thin program
pub record Spells (bytes : List ℕ) (p : Thin) : Type 0 where
  pub thin : IsThin p
  pub text : bytes ≡ thin_text p

abbrev pub IsThinText : List ℕ → Type 0
IsThinText bytes = (p : Thin) × Spells bytes p
