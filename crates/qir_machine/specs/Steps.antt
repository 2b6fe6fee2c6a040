-- The laws of a run that is asked for one step after another. What remains of a run is what will be seen of it,
-- for the outcomes and turns that are left. A step is given an outcome or none, and answers what comes next.
use Rattle.std.specs.Prelude.{◌≡◌, ℕ, zero, suc, Bool, List, [], ◌∷◌, Option, Some, None}
use Rattle.qq_base.specs.declared.run.Event as event
use Rattle.qq_base.specs.declared.run.Record as shown
use Rattle.qq_base.specs.declared.run.Event.TheVariants.{Gate, Reset, Measure}
use Rattle.qq_base.specs.declared.run.Step.{Step}
use Rattle.qq_base.specs.declared.run.Step.TheVariants.{Event, Record, Ask, Turn, Done}
use Rattle.qq_base.specs.Seen.{Seen, Ended, Asked, Turning, only, event_then, record_then}

abbrev pub Remains : Type 0
Remains = List Bool → ℕ → Seen

-- for all outcomes and turns the two show the same
abbrev pub AreSame : Remains → Remains → Type 0
AreSame old new = (outcomes : List Bool) (turns : ℕ) → old outcomes turns ≡ new outcomes turns

-- An event other than a measurement comes first, whatever the outcomes and turns. A measurement uses the outcome
-- that was given, which is that of the event.
abbrev pub IsEvent : Remains → Option Bool → event.Event → Remains → Type 0
IsEvent old given (Measure qubit outcome) new =
    (given ≡ Some outcome) × ((outcomes : List Bool) (turns : ℕ) → old (outcome ∷ outcomes) turns ≡ event_then (Measure qubit outcome) (new outcomes turns))
IsEvent old given (Gate gate args qubits) new = (outcomes : List Bool) (turns : ℕ) → old outcomes turns ≡ event_then (Gate gate args qubits) (new outcomes turns)
IsEvent old given (Reset qubit) new = (outcomes : List Bool) (turns : ℕ) → old outcomes turns ≡ event_then (Reset qubit) (new outcomes turns)

abbrev pub IsRecord : Remains → shown.Record → Remains → Type 0
IsRecord old shown new = (outcomes : List Bool) (turns : ℕ) → old outcomes turns ≡ record_then shown (new outcomes turns)

-- without an outcome nothing more is seen, and asking changes nothing
abbrev pub IsAsk : Remains → Option Bool → Remains → Type 0
IsAsk old given new = (given ≡ None) × ((turns : ℕ) → old [] turns ≡ only Asked) × AreSame new old

-- without a turn nothing more is seen; with one it is spent
abbrev pub IsTurn : Remains → Remains → Type 0
IsTurn old new = ((outcomes : List Bool) → old outcomes zero ≡ only Turning) × ((outcomes : List Bool) (turns : ℕ) → old outcomes (suc turns) ≡ new outcomes turns)

-- the run has ended, and stays so
abbrev pub IsDone : Remains → Remains → Type 0
IsDone old new = ((outcomes : List Bool) (turns : ℕ) → old outcomes turns ≡ only Ended) × AreSame new old

-- what remained before the step, the outcome that was given, the answer, and what remains behind it
abbrev pub IsStep : Remains → Option Bool → Step → Remains → Type 0
IsStep old given (Event event) new = IsEvent old given event new
IsStep old given (Record shown) new = IsRecord old shown new
IsStep old given Ask new = IsAsk old given new
IsStep old given Turn new = IsTurn old new
IsStep old given Done new = IsDone old new

-- behind a record there are no events
abbrev pub RecordsComeLast : Step → Remains → Type 0
RecordsComeLast (Record shown) new = (outcomes : List Bool) (turns : ℕ) → (new outcomes turns).events ≡ []
RecordsComeLast _ new = Unit {0}
