-- For private contracts only: what open names keep.
use Rattle.std.specs.Prelude.{◌≡◌, ℕ, ◌<◌, ◌^◌, List, [], ◌∷◌, reverse, length}
use Rattle.qasm_ast.specs.Whole.{IsProgram}
use Rattle.scope_env.specs.OpenScopes.{OpenScopes, total}
use Rattle.open_names.specs.declared.slot.Slot.{Slot}
use Rattle.open_names.specs.declared.counts.Counts.{Counts}
use Rattle.open_names.specs.declared.names.Inner.{Inner}
use Rattle.open_names.specs.declared.names.OpenNames.TheInside.{Inside}
use Rattle.open_names.specs.Counted.{counted}
use Rattle.open_names.specs.Slots.{cells_of_slot, qubits_of_slot}
use Rattle.open_names.specs.Texts.{texts}
use Rattle.open_names.specs.Keys.{IsKey}
use Rattle.open_names.specs.Standing.{Standing, shown, scopes_of}

abbrev pub standing_of : {A : Type 0} → Inside A → Standing A
standing_of names = record { program = names.program.now; globals = names.globals; inner = reverse names.inner.items }

abbrev pub AreKeys : {A : Type 0} → List (List ℕ) → List (ℕ × A) → Type 0
AreKeys ts [] = Unit {0}
AreKeys ts (entry ∷ entries) = IsKey ts entry.0 × AreKeys ts entries

pub record AreCounted {A : Type 0} (scopes : OpenScopes (Slot A)) (counts : Counts) : Type 0 where
  pub cells : counts.cells ≡ counted (total cells_of_slot scopes)
  pub qubits : counts.qubits ≡ counted (total qubits_of_slot scopes)

-- the scopes that are open within, of which each knows the sums around it
abbrev pub AreInner : {A : Type 0} → List (List ℕ) → List (ℕ × Slot A) → List (Inner A) → Type 0
AreInner ts globals [] = Unit {0}
AreInner ts globals (scope ∷ inner) = AreKeys ts scope.names × AreCounted (shown ts globals inner) scope.around × AreInner ts globals inner

pub record IsKept {A : Type 0} (s : Standing A) (sums : Counts) : Type 0 where
  pub whole : IsProgram s.program
  pub few : length (texts s.program) < 2 ^ 32
  pub globals : AreKeys (texts s.program) s.globals
  pub inner : AreInner (texts s.program) s.globals s.inner
  pub counts : AreCounted (scopes_of s) sums

abbrev pub AreKept : {A : Type 0} → Inside A → Type 0
AreKept names = IsKept (standing_of names) names.counts
