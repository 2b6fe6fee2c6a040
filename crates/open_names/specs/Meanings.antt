-- What expressions ask of open names: what each name of the program means.
use Rattle.std.specs.Prelude.{ℕ, suc, List, [], ◌∷◌}
use Rattle.const_eval.specs.Meaning.{Meaning}
use Rattle.const_eval.specs.Seen.{HasNames}
use Rattle.const_eval.specs.Things.{means_in}
use Rattle.open_names.specs.Standing.{Standing, things}

-- each of these names, by its number, with what it means
abbrev pub meanings_from : (List ℕ → Meaning) → ℕ → List (List ℕ) → List (ℕ × Meaning)
meanings_from means from [] = []
meanings_from means from (text ∷ names) = (from, means text) ∷ meanings_from means (suc from) names

abbrev pub meanings : {A : Type 0} → Standing A → List (ℕ × Meaning)
meanings s = meanings_from (means_in (things s)) 0 s.program.names

-- of each name of the program it is said what it means
abbrev pub NamesHaveMeanings : Type 0 → Type 0
NamesHaveMeanings A = (s : Standing A) → HasNames s.program (meanings s)
