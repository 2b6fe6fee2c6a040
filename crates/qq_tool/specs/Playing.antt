-- This serves private contracts alone: what is on its way to a sink when a run was shown up to its fate.
use Rattle.std.specs.Prelude.{ℕ, ◌≡◌, true, List, ◌++◌, Option, Some, None}
use Rattle.qq_base.specs.declared.run.Fate.{Fate}
use Rattle.run_text.specs.Printing.{desk, Prints}
use Rattle.run_text.specs.Showing.{Going, seen_of}
use Rattle.run_text.specs.Shown.{shown, fate_line, ending_of}
use Rattle.qir_machine.specs.Steps.{Remains}

-- a run that is shown: what remains of it, what is left for it, and what its sink took, with the count of its faults
pub record Played : Type 0 where
  pub remains : Remains
  pub going : Going
  pub taken : Option (List ℕ)
  pub faults : ℕ

-- what will be seen from here on
abbrev pub ahead : Played → List ℕ
ahead p = shown p.going.labels (seen_of p.remains p.going)

-- the text of the run at the start is what was put so far and what is ahead
pub record IsOnWay (start now : Played) : Type 0 where
  pub text : List ℕ
  pub prints : Prints (desk start.taken start.faults start.going.pending) text (desk now.taken now.faults now.going.pending)
  pub shows : ahead start ≡ text ++ ahead now
  pub fate : (seen_of start.remains start.going).fate ≡ (seen_of now.remains now.going).fate

-- Nothing is ahead but the line of the fate, or a write failed.
abbrev pub IsPlayed : Played → Option Fate → Played → Type 0
IsPlayed start (Some fate) end =
    (text : List ℕ) × Prints (desk start.taken start.faults start.going.pending) text (desk end.taken end.faults end.going.pending)
    × (ahead start ≡ text ++ fate_line (ending_of fate)) × ((seen_of start.remains start.going).fate ≡ ending_of fate)
IsPlayed start None end =
    (text : List ℕ) × (rest : List ℕ) × Prints (desk start.taken start.faults start.going.pending) text (desk end.taken end.faults end.going.pending)
    × (ahead start ≡ text ++ rest) × (end.going.pending.failed ≡ true)
