-- A run that is shown step by step: what its text is by then, and what it takes of the outcomes and turns.
use Rattle.std.specs.Prelude.{ℕ, ◌≡◌, ◌+◌, ◌<◌, Bool, List, [], ◌++◌, length, drop, Option, Some, None, slice_get}
use Rattle.qq_base.specs.declared.run.Event.{Event}
use Rattle.qq_base.specs.declared.run.Event.TheVariants.{Measure}
use Rattle.qq_base.specs.declared.run.Fate.{Fate}
use Rattle.qq_base.specs.Seen.{Seen, only}
use Rattle.run_text.specs.Printing.{Desk, desk, Pending, Prints}
use Rattle.run_text.specs.Shown.{shown, ending_of}
use Rattle.qir_machine.specs.Steps.{Remains}

-- the labels of the records, the outcomes and turns that are left, and the printer
pub record Going : Type 0 where
  pub labels : List (List ℕ)
  pub outcomes : List Bool
  pub turns : ℕ
  pub pending : Pending

-- what will be seen of what remains, for the outcomes and turns that are left
abbrev pub seen_of : Remains → Going → Seen
seen_of remains going = remains going.outcomes going.turns

-- the number of steps that can be left of what will be seen
abbrev pub steps_of : Remains → Going → ℕ
steps_of remains going = length (seen_of remains going).events + length (seen_of remains going).records + going.turns

-- the outcome for the next measurement
abbrev pub next_outcome : Going → Option Bool
next_outcome going = slice_get going.outcomes 0

-- a measurement uses an outcome
abbrev pub outcomes_behind : {A : Type 0} → Event → List A → List A
outcomes_behind (Measure qubit outcome) outcomes = drop 1 outcomes
outcomes_behind _ outcomes = outcomes

-- A step is on its way to the sink, and the run goes on: its text is the step's, and then that of what remains.
pub record GoesOn (before : Remains) (old : Going) (behind : Remains) (new : Going) (text : List ℕ) : Type 0 where
  pub labels : new.labels ≡ old.labels
  pub shows : shown old.labels (seen_of before old) ≡ text ++ shown new.labels (seen_of behind new)
  pub fate : (seen_of before old).fate ≡ (seen_of behind new).fate
  pub fewer : steps_of behind new < steps_of before old

-- A step was taken over, where `before` remained before it and `behind` remains behind it. Nothing is answered where
-- the run goes on; else nothing more is seen of it but its fate.
abbrev pub IsTaken : Remains → Going → Option Fate → Remains → Going → List ℕ → Type 0
IsTaken before old None behind new text = GoesOn before old behind new text
IsTaken before old (Some fate) behind new text = (new.labels ≡ old.labels) × (text ≡ []) × (seen_of before old ≡ only (ending_of fate))
