-- What a reader promises, in the words of the grammar alone. `wide` is the grammar without limits: for
-- each number of levels the part with room for that many, and with no other limit.
use Rattle.std.specs.Prelude.{◌≡◌, ℕ, List, [], ◌∷◌, ◌++◌, Ok, Err}
use Rattle.grammar_parts.specs.Part.{Part}
use Rattle.grammar_parts.specs.Reading.{syntax, deep, Outcome, Stops}

-- The token t behind xs is one that only the limits forbid.
abbrev pub OnlyLimits : {T A : Type 0} → Part T A → (ℕ → Part T A) → List T → T → Type 0
OnlyLimits p wide xs t = (p.begins (xs ++ t ∷ []) → ⊥) × (room : ℕ) × (wide room).begins (xs ++ t ∷ [])

-- No limit lets the token behind xs go on.
abbrev pub NoneGoesOn : {T A : Type 0} → (ℕ → Part T A) → List T → List T → Type 0
NoneGoesOn wide xs rest = (room : ℕ) → Stops (wide room) xs rest

-- What a reader that may leave tokens answers.
abbrev pub Exactly : {T A : Type 0} → Part T A → (ℕ → Part T A) → List T → Outcome T A → Type 0
Exactly {T} {A} p wide ts (Ok r) = (xs : List T) × (ts ≡ xs ++ r.1) × p.derives xs r.0 × NoneGoesOn wide xs r.1
Exactly {T} {A} p wide ts (Err (syntax rest)) = (xs : List T) × (ts ≡ xs ++ rest) × p.begins xs × ((a : A) → p.derives xs a → ⊥) × NoneGoesOn wide xs rest
Exactly {T} {A} p wide ts (Err (deep rest)) = (xs : List T) × (t : T) × (more : List T) × (rest ≡ t ∷ more) × (ts ≡ xs ++ rest) × p.begins xs × OnlyLimits p wide xs t
