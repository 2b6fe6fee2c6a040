-- For private contracts: the innermost of scopes.
use Rattle.std.specs.Prelude.{ℕ, List, [], ◌∷◌}

abbrev pub innermost : {A : Type 0} → List (List (ℕ × A)) → List (ℕ × A)
innermost [] = []
innermost (scope ∷ outer) = scope
