-- What the arguments of the members of a list are worth, and how many arguments and qubits a gate takes.
use Rattle.std.specs.Prelude.{ℕ, ◌<◌, true, false, List, [], ◌∷◌, ℤ, pos, Option, Some, None}
use Rattle.gate_table.specs.declared.table.Row.{Row}
use Rattle.gate_table.specs.Table.{row_of}
use Rattle.gate_lists.specs.declared.member.Amount.{Amount}
use Rattle.gate_lists.specs.declared.member.Amount.TheVariants as amount
use Rattle.gate_lists.specs.Units.{word_of, negated}

-- how many arguments and qubits the gate of a row takes
abbrev params_in : Option Row → ℕ
params_in None = 0
params_in (Some row) = row.params

abbrev qubits_in : Option Row → ℕ
qubits_in None = 0
qubits_in (Some row) = row.qubits

unfoldable pub params_of : ℕ → ℕ
params_of gate = params_in (row_of gate)

unfoldable pub qubits_of : ℕ → ℕ
qubits_of gate = qubits_in (row_of gate)

-- an argument, where each turn has the worth that `worths` gives for it
abbrev pub units_in : (ℕ → ℤ) → Amount → ℤ
units_in worths (amount.Units z) = z
units_in worths (amount.Turn k false) = word_of (worths k)
units_in worths (amount.Turn k true) = negated (worths k)

-- a turn that is named is a turn of a list with so many
abbrev pub IsNamed : ℕ → Amount → Type 0
IsNamed turns (amount.Turn k negated) = k < turns
IsNamed turns (amount.Units z) = Unit {0}

-- the arguments under a control: the same, or this one turn
abbrev pub amounts_under : Option ℤ → List Amount → List Amount
amounts_under None args = args
amounts_under (Some turn) args = amount.Units turn ∷ amount.Units (pos 0) ∷ amount.Units (pos 0) ∷ amount.Units (pos 0) ∷ []
