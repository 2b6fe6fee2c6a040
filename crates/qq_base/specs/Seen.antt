-- What was seen of a run: how far it came, what it did to its qubits, and what it recorded.
use Rattle.std.specs.Prelude.{ℕ, zero, suc, Bool, List, [], ◌∷◌}
use Rattle.qq_base.specs.declared.run.Event.{Event}
use Rattle.qq_base.specs.declared.run.Record.{Record}

-- How far a run came. Stuck is for runs of a module alone, where it reads what was not assigned or jumps to
-- no block.
pub data Ending : Type 0 where
  Ended : Ending
  Asked : Ending
  Turning : Ending
  Stuck : Ending

pub record Seen : Type 0 where
  pub fate : Ending
  pub events : List Event
  pub records : List Record

-- nothing more is seen
abbrev pub only : Ending → Seen
only fate = record { fate = fate; events = []; records = [] }

-- an event, then what is seen behind it
abbrev pub event_then : Event → Seen → Seen
event_then event seen = record { fate = seen.fate; events = event ∷ seen.events; records = seen.records }

-- a record, then what is seen behind it
abbrev pub record_then : Record → Seen → Seen
record_then shown seen = record { fate = seen.fate; events = seen.events; records = shown ∷ seen.records }

-- A measurement takes the first outcome that is left. Where none is left, the run is asked.
abbrev pub with_outcome : List Bool → (Bool → List Bool → Seen) → Seen
with_outcome [] go = only Asked
with_outcome (outcome ∷ outcomes) go = go outcome outcomes

-- The end of a loop's body spends a turn. Where none is left, the run is turning.
abbrev pub with_turn : ℕ → (ℕ → Seen) → Seen
with_turn zero go = only Turning
with_turn (suc turns) go = go turns
