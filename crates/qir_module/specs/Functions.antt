-- The table of the functions that a module may call, by their places from 0: names, what they take and
-- give, and what the machine does at a call. The names and types are those of the target's instruction
-- set in QIR; the first seven are of its run-time system and of measuring and resetting, and gate g of the
-- target table is function 7 + g.
use Rattle.std.specs.Prelude.{◌≡◌, ℕ, zero, suc, Bool, true, false, List, [], ◌∷◌, ◌++◌, map, take, replicate, slice_get, Option, Some, codes, if◌then◌else◌}
use Rattle.std.specs.List.{enumerate_from}
use Rattle.std.specs.Option.{option_map}
use Rattle.std.specs.Str.{bytes_eq}
use Prim.Native.String.{String}
use Rattle.gate_table.specs.Table.{TargetGate, gates}

-- what an argument is; a word is an i64, a truth value an i1, and all others are pointers
pub data Kind : Type 0 where
  NumberKind : Kind
  TruthKind : Kind
  NullKind : Kind
  QubitKind : Kind
  ResultKind : Kind
  LabelKind : Kind

-- what a call does
pub data Task : Type 0 where
  Initialize : Task
  ReadResult : Task
  ArrayRecord : Task
  BoolRecord : Task
  IntRecord : Task
  ResetQubit : Task
  MeasureQubit : Task
  ApplyGate : (gate : ℕ) → Task

pub record Row : Type 0 where
  pub name : List ℕ
  pub takes : List Kind
  -- whether a call gives a truth value
  pub gives : Bool
  -- whether its declaration says that it cannot be undone
  pub irreversible : Bool
  pub task : Task

-- ---- the run-time system

abbrev pub runtime_row : String → List Kind → Bool → Task → Row
runtime_row name takes gives task = record { name = codes name; takes = takes; gives = gives; irreversible = false; task = task }

abbrev pub irreversible_row : String → List Kind → Task → Row
irreversible_row name takes task = record { name = codes name; takes = takes; gives = false; irreversible = true; task = task }

abbrev pub runtime_rows : List Row
runtime_rows =
    runtime_row "__quantum__rt__initialize" (NullKind ∷ []) false Initialize
    ∷ runtime_row "__quantum__rt__read_result" (ResultKind ∷ []) true ReadResult
    ∷ runtime_row "__quantum__rt__array_record_output" (NumberKind ∷ LabelKind ∷ []) false ArrayRecord
    ∷ runtime_row "__quantum__rt__bool_record_output" (TruthKind ∷ LabelKind ∷ []) false BoolRecord
    ∷ runtime_row "__quantum__rt__int_record_output" (NumberKind ∷ LabelKind ∷ []) false IntRecord
    ∷ irreversible_row "__quantum__qis__reset__body" (QubitKind ∷ []) ResetQubit
    ∷ irreversible_row "__quantum__qis__mz__body" (QubitKind ∷ ResultKind ∷ []) MeasureQubit
    ∷ []

-- ---- the gates

-- the gate's name, but `u` for `U`
abbrev pub gate_name : List ℕ → List ℕ
gate_name name = if bytes_eq name (codes "U") then codes "u" else name

-- a function whose arguments are numbers of units says so
abbrev pub turn_text : ℕ → List ℕ
turn_text zero = []
turn_text (suc params) = codes "_turn"

-- a number for each argument, and then the qubits
abbrev pub gate_row : ℕ × TargetGate → Row
gate_row g = record {
  name = codes "__quantum__qis__" ++ gate_name (g.1).name ++ turn_text (g.1).params ++ codes "__body";
  takes = replicate (g.1).params NumberKind ++ replicate (g.1).qubits QubitKind;
  gives = false;
  irreversible = false;
  task = ApplyGate g.0;
}

-- `gphase`, the last of the target table, takes no qubit and is no function
abbrev pub gate_rows : List Row
gate_rows = map gate_row (enumerate_from 0 (take 30 gates))

-- ---- the table

abbrev pub rows : List Row
rows = runtime_rows ++ gate_rows

-- the row of a function; there are 37
abbrev pub row_of : ℕ → Option Row
row_of place = slice_get rows place

-- the name of a function, without the `@` in front
abbrev pub IsNameOf : ℕ → List ℕ → Type 0
IsNameOf place name = option_map (λ (row : Row). row.name) (row_of place) ≡ Some name

abbrev pub FunctionNamesDiffer : Type 0
FunctionNamesDiffer = (a b : ℕ) (name : List ℕ) → IsNameOf a name → IsNameOf b name → a ≡ b
