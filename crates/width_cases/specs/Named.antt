-- For private contracts alone: the two names of an expression.
use Rattle.std.specs.Prelude.{ℕ, List, [], ◌∷◌}

-- `l` and `r`
abbrev pub the_names : List (List ℕ)
the_names = (108 ∷ []) ∷ (114 ∷ []) ∷ []
