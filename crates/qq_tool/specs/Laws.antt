-- How the runs of one program or module at different outcomes and turns belong together.
use Rattle.std.specs.Prelude.{ℕ, ◌+◌, ◌≡◌, ◌≢◌, Bool, List, ◌++◌}
use Rattle.qq_base.specs.declared.run.Event.{Event}
use Rattle.qq_base.specs.Seen.{Seen, Ended}

-- what is seen at a list of outcomes and a number of turns
abbrev pub Run : Type 0
Run = List Bool → ℕ → Seen

-- A run that ended is the same with more turns and with further outcomes behind the list.
abbrev pub EndedRunsStay : Run → Type 0
EndedRunsStay run = (outcomes more : List Bool) (turns further : ℕ)
    → (run outcomes turns).fate ≡ Ended → run (outcomes ++ more) (turns + further) ≡ run outcomes turns

-- The events of a run that did not end are a prefix of those with more turns and further outcomes.
abbrev pub UnfinishedRunsGoOn : Run → Type 0
UnfinishedRunsGoOn run = (outcomes more : List Bool) (turns further : ℕ)
    → (run outcomes turns).fate ≢ Ended
    → (later : List Event) × ((run (outcomes ++ more) (turns + further)).events ≡ (run outcomes turns).events ++ later)
