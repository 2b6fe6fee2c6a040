-- This serves private contracts alone: a text that is written on one sink, and the status that is answered.
use Rattle.std.specs.Prelude.{ℕ, ◌≡◌, ◌⊎◌, List}
use Rattle.qq_tool.specs.declared.status.Status.{Status}
use Rattle.qq_tool.specs.declared.status.Status.TheVariants.{WriteFault, OutOfMemory}
use Rattle.qq_tool.specs.Answer.{Change, Adds, AddsPart, AddsNothing, IsFaulty}

-- `due` says which statuses go with the text that was written whole; no failure is one of them.
pub record IsTold (due : Status → Type 0) (text : List ℕ) (sink : Change) (status : Status) : Type 0 where
  pub answer : due status ⊎ ((status ≡ WriteFault) ⊎ (status ≡ OutOfMemory))
  pub whole : due status → Adds sink text
  pub part : status ≡ WriteFault → AddsPart sink text
  pub fault : status ≡ WriteFault → IsFaulty sink
  pub memory : status ≡ OutOfMemory → AddsNothing sink
