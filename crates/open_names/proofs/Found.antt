-- What a name stands for in open scopes, by its number.
use Rattle.std.proofs.Common.{◌≡◌, ℕ, Bool, true, false, List, [], ◌∷◌, Some, is_some, nat_eq, refl, cond}
use Rattle.std.specs.Map.{lookup}
use Rattle.std.specs.Option.{option_or}
use Rattle.qasm_ast.specs.Tree.{text_at}
use Rattle.scope_env.specs.OpenScopes.{OpenScopes, find, is_here, close}
use Rattle.open_names.specs.Standing.{named, is_top}
use Rattle.open_names.specs.Keys.{IsKey}
use Rattle.open_names.specs.Keeping.{AreKeys}
use Rattle.open_names.proofs.Texts.{is_same-keys}

module _ {A : Type 0} (ts : List (List ℕ)) (key : ℕ) (is_key : IsKey ts key) where
  pub find-named : (entries : List (ℕ × A)) (around : OpenScopes A) → AreKeys ts entries → find (text_at ts key) (named ts entries around) ≡ option_or (lookup (nat_eq key) entries) (find (text_at ts key) around)
  find-named [] around keys = refl
  find-named (entry ∷ entries) around keys = rw (is_same-keys ts key entry.0 is_key keys.0) (by (nat_eq key entry.0) (find-named entries around keys.1))
    where
      by : (b : Bool) → find (text_at ts key) (named ts entries around) ≡ option_or (lookup (nat_eq key) entries) (find (text_at ts key) around) → cond b (Some entry.1) (find (text_at ts key) (named ts entries around)) ≡ option_or (cond b (Some entry.1) (lookup (nat_eq key) entries)) (find (text_at ts key) around)
      by true rest = refl
      by false rest = rest

  -- whether a scope has the name, where it is new
  pub is_here-named : (entries : List (ℕ × A)) (around : OpenScopes A) → is_here (text_at ts key) around ≡ false → AreKeys ts entries → is_here (text_at ts key) (named ts entries around) ≡ is_some (lookup (nat_eq key) entries)
  is_here-named [] around absent keys = absent
  is_here-named (entry ∷ entries) around absent keys = rw (is_same-keys ts key entry.0 is_key keys.0) (by (nat_eq key entry.0) (is_here-named entries around absent keys.1))
    where
      by : (b : Bool) → is_here (text_at ts key) (named ts entries around) ≡ is_some (lookup (nat_eq key) entries) → cond b true (is_here (text_at ts key) (named ts entries around)) ≡ is_some (cond b (Some entry.1) (lookup (nat_eq key) entries))
      by true rest = refl
      by false rest = rest

module _ {A : Type 0} (ts : List (List ℕ)) where
  pub close-named : (entries : List (ℕ × A)) (around : OpenScopes A) → close (named ts entries around) ≡ close around
  close-named [] around = refl
  close-named (entry ∷ entries) around = close-named entries around

  pub is_top-named : (entries : List (ℕ × A)) (around : OpenScopes A) → is_top (named ts entries around) ≡ is_top around
  is_top-named [] around = refl
  is_top-named (entry ∷ entries) around = is_top-named entries around
