-- Laws of the run of a program.
use Rattle.std.specs.Prelude.{◌≡◌, ℕ, ◌+◌, Bool, List, [], ◌∷◌, ◌++◌}
use Rattle.qq_base.specs.declared.refusal.Span.{Span}
use Rattle.qq_base.specs.declared.run.Event.{Event}
use Rattle.qq_base.specs.Seen.{Ended}
use Rattle.qasm_ast.specs.Tree.{Statements}
use Rattle.source_meaning.specs.Library.{predefined}
use Rattle.source_meaning.specs.GateCalls.{Expands}
use Rattle.source_meaning.specs.Source.{outputs, source_run, source_halt}
use Rattle.source_meaning.specs.Remaining.{Do, Pieces, rest_seen, rest_halt}

-- the second list begins with the first
abbrev pub Begins : List Event → List Event → Type 0
Begins events longer = (rest : List Event) × (longer ≡ events ++ rest)

-- where a run ended, more turns and further outcomes give the same
abbrev pub EndedRunsStay : Type 0
EndedRunsStay = (expand : Expands) (top : Statements) (place : Span) (outcomes others : List Bool) (turns extra : ℕ)
    → (source_run expand top place outcomes turns).fate ≡ Ended
    → source_run expand top place (outcomes ++ others) (turns + extra) ≡ source_run expand top place outcomes turns

-- the events of a run begin those with more turns and further outcomes
abbrev pub EventsGoOn : Type 0
EventsGoOn = (expand : Expands) (top : Statements) (place : Span) (outcomes others : List Bool) (turns extra : ℕ)
    → Begins (source_run expand top place outcomes turns).events (source_run expand top place (outcomes ++ others) (turns + extra)).events

-- in front of the first statement all is left: what is seen of that is the run of the program, and it stands where that stands
pub record AllIsLeftAtFirst : Type 0 where
  pub seen : (expand : Expands) (top : Statements) (place : Span) (outcomes : List Bool) (turns : ℕ) →
      rest_seen expand (outputs expand top place) (Pieces (Do top ∷ []) predefined) outcomes turns ≡ source_run expand top place outcomes turns
  pub halt : (expand : Expands) (top : Statements) (place : Span) (outcomes : List Bool) (turns : ℕ) →
      rest_halt expand (Pieces (Do top ∷ []) predefined) outcomes turns ≡ source_halt expand top place outcomes turns
