-- The definitions of this crate at the thin program that prepares a Bell pair and measures it: its text, its
-- runs and its module.
use Rattle.std.specs.Prelude.{◌≡◌, refl, ℕ, Bool, false, List, [], ◌∷◌, ◌++◌, pos, codes}
use Rattle.std.specs.Fmt.{digits}
use Prim.Native.String.{String}
use Rattle.qq_base.specs.declared.run.QubitId.{QubitId}
use Rattle.qq_base.specs.declared.run.Event.{Event}
use Rattle.qq_base.specs.declared.run.Event.TheVariants.{Gate, Measure as MeasureEvent}
use Rattle.qq_base.specs.declared.run.Record.TheVariants.{Array, Bool as BoolRecord}
use Rattle.qq_base.specs.Seen.{Ended, Asked}
use Rattle.qir_module.specs.Text.{line}
use Rattle.qir_module.proofs.Worked.{bell_pair as bell_module}
use Rattle.qq_tool.specs.declared.thin.ThinLine.TheVariants.{Hadamard, ControlledNot, Measure}
use Rattle.qq_tool.specs.Thin.{Thin, thin_text}
use Rattle.qq_tool.specs.ThinRun.{source_run}
use Rattle.qq_tool.specs.Lowered.{lowered}

abbrev bell_pair : Thin
bell_pair = record { qubits = 2; bits = 2; lines = Hadamard 0 ∷ ControlledNot 0 1 ∷ Measure 0 0 ∷ Measure 1 1 ∷ [] }

-- the lines of a text
abbrev text_of : List String → List ℕ
text_of [] = []
text_of (l ∷ ls) = line (codes l) ++ text_of ls

pub bell_pair_text : thin_text bell_pair ≡ text_of (
    "OPENQASM 3.0;" ∷
    "include \"stdgates.inc\";" ∷
    "qubit[2] q;" ∷
    "bit[2] c;" ∷
    "h q[0];" ∷
    "cx q[0], q[1];" ∷
    "c[0] = measure q[0];" ∷
    "c[1] = measure q[1];" ∷ [])
unfolding digits
bell_pair_text = refl

-- ---- its runs

abbrev qubit : ℕ → QubitId
qubit n = record { 0 = n }

abbrev hadamard : Event
hadamard = Gate (record { 0 = 3 }) (pos 0 ∷ pos 0 ∷ pos 0 ∷ pos 0 ∷ []) (qubit 0 ∷ qubit 0 ∷ qubit 0 ∷ [])

abbrev controlled_not : Event
controlled_not = Gate (record { 0 = 15 }) (pos 0 ∷ pos 0 ∷ pos 0 ∷ pos 0 ∷ []) (qubit 0 ∷ qubit 1 ∷ qubit 0 ∷ [])

-- both outcomes are there, whatever they are and whatever is behind them
pub bell_pair_ends : (a b : Bool) (more : List Bool) (turns : ℕ) → source_run bell_pair (a ∷ b ∷ more) turns ≡ record {
  fate = Ended;
  events = hadamard ∷ controlled_not ∷ MeasureEvent (qubit 0) a ∷ MeasureEvent (qubit 1) b ∷ [];
  records = Array 0 2 ∷ BoolRecord 1 a ∷ BoolRecord 2 b ∷ [];
}
bell_pair_ends a b more turns = refl

-- the second outcome is missing, or both are
pub bell_pair_asked_second : (a : Bool) (turns : ℕ) → source_run bell_pair (a ∷ []) turns ≡ record { fate = Asked; events = hadamard ∷ controlled_not ∷ MeasureEvent (qubit 0) a ∷ []; records = [] }
bell_pair_asked_second a turns = refl

pub bell_pair_asked_first : (turns : ℕ) → source_run bell_pair [] turns ≡ record { fate = Asked; events = hadamard ∷ controlled_not ∷ []; records = [] }
bell_pair_asked_first turns = refl

-- a bit that is measured twice has its last outcome, and one that is never measured is 0
abbrev measured_twice : Thin
measured_twice = record { qubits = 1; bits = 2; lines = Measure 0 1 ∷ Measure 0 1 ∷ [] }

pub measured_twice_ends : (a b : Bool) (turns : ℕ) → source_run measured_twice (a ∷ b ∷ []) turns ≡ record {
  fate = Ended;
  events = MeasureEvent (qubit 0) a ∷ MeasureEvent (qubit 0) b ∷ [];
  records = Array 0 2 ∷ BoolRecord 1 false ∷ BoolRecord 2 b ∷ [];
}
measured_twice_ends a b turns = refl

-- ---- its module

pub bell_pair_lowered : lowered bell_pair ≡ bell_module
unfolding digits
bell_pair_lowered = refl
