-- The target table: the gates of the target's instruction set, what each takes, its inverse, and the gate that
-- it is under a control. A gate is known by its row, counted from 0. The gates and their names are those of
-- the OpenQASM 3.0 specification: `U` and `gphase` of the language itself, the others of its library
-- `stdgates.inc`; but `sxdg`, the inverse of `sx`, is the target's own. An argument is an angle, in units of
-- 2^-32 turn.
use Rattle.std.specs.Prelude.{ℕ, ◌^◌, ◌-ℤ◌, List, [], ◌∷◌, ◌++◌, map, slice_get, ℤ, pos, Option, Some, None, option_and_then, codes, if◌then◌else◌}
use Rattle.std.specs.List.{enumerate_from}
use Rattle.std.specs.Str.{bytes_eq}
use Prim.Native.String.{String}
use Rattle.qq_base.specs.declared.run.GateId.{GateId}
use Rattle.gate_table.specs.declared.table.Row.{Row}
use Rattle.gate_table.specs.declared.table.InvRow.{InvRow}
use Rattle.gate_table.specs.declared.table.CtlRow.{CtlRow}

-- ---- the table

-- what the inverse of a gate is: none, another gate, or the gate itself with each argument negated, in the
-- same order or with the second and the third exchanged
pub data Inverse : Type 0 where
  NoInverse : Inverse
  Other : (gate : ℕ) → Inverse
  Itself : Inverse
  Exchanged : Inverse

-- what a gate is under a control, which becomes the first qubit: none, a gate with the same arguments, or a
-- gate with this one argument
pub data Control : Type 0 where
  NoControl : Control
  Controlled : (gate : ℕ) → Control
  Turned : (gate : ℕ) (turn : ℤ) → Control

pub record TargetGate : Type 0 where
  pub name : List ℕ
  -- the number of arguments, and of qubits
  pub params : ℕ
  pub qubits : ℕ
  pub inverse : Inverse
  pub control : Control

abbrev gate : String → ℕ → ℕ → Inverse → Control → TargetGate
gate name params qubits inverse control = record { name = codes name; params = params; qubits = qubits; inverse = inverse; control = control }

abbrev minus : ℕ → ℤ
minus n = pos 0 -ℤ pos n

-- the rows of the gates that other rows name
abbrev s : ℕ
s = 4

abbrev sdg : ℕ
sdg = 5

abbrev t : ℕ
t = 6

abbrev tdg : ℕ
tdg = 7

abbrev sx : ℕ
sx = 8

abbrev sxdg : ℕ
sxdg = 9

abbrev p : ℕ
p = 11

abbrev cx : ℕ
cx = 15

abbrev cy : ℕ
cy = 16

abbrev cz : ℕ
cz = 17

abbrev ch : ℕ
ch = 18

abbrev cp : ℕ
cp = 19

abbrev crx : ℕ
crx = 20

abbrev cry : ℕ
cry = 21

abbrev crz : ℕ
crz = 22

abbrev ccx : ℕ
ccx = 24

abbrev cswap : ℕ
cswap = 25

-- name, arguments, qubits, inverse, under a control
abbrev pub gates : List TargetGate
gates =
    gate "x" 0 1 Itself (Controlled cx)
    ∷ gate "y" 0 1 Itself (Controlled cy)
    ∷ gate "z" 0 1 Itself (Controlled cz)
    ∷ gate "h" 0 1 Itself (Controlled ch)
    ∷ gate "s" 0 1 (Other sdg) (Turned cp (pos (2 ^ 30)))
    ∷ gate "sdg" 0 1 (Other s) (Turned cp (minus (2 ^ 30)))
    ∷ gate "t" 0 1 (Other tdg) (Turned cp (pos (2 ^ 29)))
    ∷ gate "tdg" 0 1 (Other t) (Turned cp (minus (2 ^ 29)))
    ∷ gate "sx" 0 1 (Other sxdg) NoControl
    ∷ gate "sxdg" 0 1 (Other sx) NoControl
    ∷ gate "id" 0 1 Itself NoControl
    ∷ gate "p" 1 1 Itself (Controlled cp)
    ∷ gate "rx" 1 1 Itself (Controlled crx)
    ∷ gate "ry" 1 1 Itself (Controlled cry)
    ∷ gate "rz" 1 1 Itself (Controlled crz)
    ∷ gate "cx" 0 2 Itself (Controlled ccx)
    ∷ gate "cy" 0 2 Itself NoControl
    ∷ gate "cz" 0 2 Itself NoControl
    ∷ gate "ch" 0 2 Itself NoControl
    ∷ gate "cp" 1 2 Itself NoControl
    ∷ gate "crx" 1 2 Itself NoControl
    ∷ gate "cry" 1 2 Itself NoControl
    ∷ gate "crz" 1 2 Itself NoControl
    ∷ gate "swap" 0 2 Itself (Controlled cswap)
    ∷ gate "ccx" 0 3 Itself NoControl
    ∷ gate "cswap" 0 3 Itself NoControl
    ∷ gate "U" 3 1 Exchanged NoControl
    ∷ gate "u3" 3 1 Exchanged NoControl
    ∷ gate "u2" 2 1 NoInverse NoControl
    ∷ gate "cu" 4 2 Exchanged NoControl
    ∷ gate "gphase" 1 0 Itself (Controlled p)
    ∷ []

-- ---- its columns

-- argument k of the inverse is minus argument `order[k]` of the gate; behind the arguments, places keep their order
abbrev itself_of : ℕ → InvRow
itself_of gate = record { gate = record { 0 = gate }; order = 0 ∷ 1 ∷ 2 ∷ 3 ∷ [] }

abbrev exchanged_of : ℕ → InvRow
exchanged_of gate = record { gate = record { 0 = gate }; order = 0 ∷ 2 ∷ 1 ∷ 3 ∷ [] }

-- the inverse of the gate in a row
abbrev pub inverse_in : ℕ → Inverse → Option InvRow
inverse_in row NoInverse = None
inverse_in row (Other gate) = Some (itself_of gate)
inverse_in row Itself = Some (itself_of row)
inverse_in row Exchanged = Some (exchanged_of row)

abbrev control_in : ℕ → Option ℤ → CtlRow
control_in gate turn = record { gate = record { 0 = gate }; turn = turn }

abbrev pub control_row : Control → Option CtlRow
control_row NoControl = None
control_row (Controlled gate) = Some (control_in gate None)
control_row (Turned gate turn) = Some (control_in gate (Some turn))

abbrev pub rows : List Row
rows = map (λ (g : TargetGate). record { params = g.params; qubits = g.qubits }) gates

abbrev pub inverses : List (Option InvRow)
inverses = map (λ (g : ℕ × TargetGate). inverse_in g.0 (g.1).inverse) (enumerate_from 0 gates)

abbrev pub controls : List (Option CtlRow)
controls = map (λ (g : TargetGate). control_row g.control) gates

abbrev pub names : List (List ℕ)
names = map (λ (g : TargetGate). g.name) gates

-- ---- its entries, None where there is no such gate

abbrev pub row_of : ℕ → Option Row
row_of gate = slice_get rows gate

-- None also where the gate has no inverse
abbrev pub inverse_of : ℕ → Option InvRow
inverse_of gate = option_and_then (λ (inverse : Option InvRow). inverse) (slice_get inverses gate)

-- None also where no gate of the table is the gate under a control
abbrev pub control_of : ℕ → Option CtlRow
control_of gate = option_and_then (λ (control : Option CtlRow). control) (slice_get controls gate)

-- ---- the names by which a source text calls gates

-- the names of the rows, but for `sxdg`, which a program may define itself
abbrev own_name : ℕ × TargetGate → List (List ℕ × ℕ)
own_name g = if bytes_eq (g.1).name (codes "sxdg") then [] else ((g.1).name, g.0) ∷ []

abbrev own_names : List (ℕ × TargetGate) → List (List ℕ × ℕ)
own_names [] = []
own_names (g ∷ gs) = own_name g ++ own_names gs

-- each name with its gate
abbrev pub source_names : List (List ℕ × ℕ)
source_names =
    own_names (enumerate_from 0 gates)
    ++ (codes "CX", cx) ∷ (codes "phase", p) ∷ (codes "u1", p) ∷ (codes "cphase", cp) ∷ []

abbrev pub gate_among : List (List ℕ × ℕ) → List ℕ → Option GateId
gate_among [] name = None
gate_among (entry ∷ entries) name = if bytes_eq entry.0 name then Some (record { 0 = entry.1 }) else gate_among entries name

-- the gate of a source name
abbrev pub gate_named : List ℕ → Option GateId
gate_named name = gate_among source_names name
