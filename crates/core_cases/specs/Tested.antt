-- For private contracts only: tests that go along lists.
use Rattle.std.specs.Prelude.{ℕ, ◌<◌, List, [], ◌∷◌}

abbrev pub IsBelowFirst : ℕ → List ℕ → Type 0
IsBelowFirst n [] = Unit {0}
IsBelowFirst n (x ∷ xs) = n < x

abbrev pub Ascends : List ℕ → Type 0
Ascends [] = Unit {0}
Ascends (x ∷ xs) = IsBelowFirst x xs × Ascends xs
