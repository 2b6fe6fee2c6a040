-- Walks of the members of a list.
use Rattle.std.specs.Prelude.{List, [], ◌∷◌}
use Rattle.const_eval.specs.Walk.{Walk, done, then_walk}

-- the walks of the members, one after another, with their answers in a list
abbrev pub each_walk : {A B : Type 0} → (A → Walk B) → List A → Walk (List B)
each_walk f [] = done []
each_walk f (a ∷ as') =
    then_walk (f a) (λ x.
    then_walk (each_walk f as') (λ xs.
    done (x ∷ xs)))
