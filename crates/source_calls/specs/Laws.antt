-- Laws of the numbers of definitions. `Known` names stand in these scopes, as a walk has them.
use Rattle.std.specs.Prelude.{◌≡◌, ℕ, true, List, Some}
use Rattle.scope_env.specs.OpenScopes.{OpenScopes, is_same, find, since}
use Rattle.const_eval.specs.Things.{Known, Gate, DefinedGate}
use Rattle.source_calls.specs.Calls.{number_of, since_number, declarations_of, definition_of, inside_in}

pub record DefinitionsAreFound : Type 0 where
  -- the number of a name tells what stood when the name was declared
  pub told : (x : List ℕ) (thing : Known) (scopes : OpenScopes Known) → find x scopes ≡ Some thing →
      since_number (number_of x scopes).0 scopes ≡ since x scopes
  -- The number of a gate's name tells its definition, and its body sees what stood when it was declared.
  pub definition : (x : List ℕ) (g : Gate) (scopes : OpenScopes Known) → find x scopes ≡ Some (DefinedGate g) →
      (y : List ℕ) × (is_same x y ≡ true) × ((declarations_of scopes).definition (number_of x scopes) ≡ definition_of y g)
  pub inside : (x : List ℕ) (thing : Known) (scopes : OpenScopes Known) (text : List ℕ) → find x scopes ≡ Some thing →
      (declarations_of scopes).inside (number_of x scopes) text ≡ inside_in (since x scopes) text
  -- The number that a name has in a body tells the same definition where the call stands.
  pub number : (x text : List ℕ) (thing : Known) (scopes : OpenScopes Known) → find text (since x scopes) ≡ Some thing →
      since_number (number_of text (since x scopes)).0 scopes ≡ since text (since x scopes)
