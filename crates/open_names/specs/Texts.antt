-- The texts of names by their numbers.
use Rattle.std.specs.Prelude.{ℕ, List, ◌∷◌, ◌++◌, map, codes}
use Rattle.qasm_ast.specs.Whole.{Source}
use Rattle.const_eval.specs.ConstantPlaces.{pi_text, tau_text}
use Rattle.source_meaning.specs.Library.{included}

-- the names that a program has without declaring them
abbrev pub standard_names : List (List ℕ)
standard_names = codes "pi" ∷ pi_text ∷ codes "tau" ∷ tau_text ∷ codes "U" ∷ codes "gphase" ∷ map (λ (entry : List ℕ × ℕ). entry.0) included

-- The texts of names by their numbers. A standard name that does not occur in the program has a number behind those of the program.
abbrev pub texts : Source → List (List ℕ)
texts p = p.names ++ standard_names
