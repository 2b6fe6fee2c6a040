-- What a name finds, where a function is applied to all values.
use Rattle.std.proofs.Common.{◌≡◌, ℕ, Bool, true, false, List, [], ◌∷◌, Option, None, Some, nat_eq, refl, map, cond}
use Rattle.std.specs.Map.{lookup}
use Rattle.std.specs.Option.{option_or, option_map}
use Rattle.scope_env.specs.Scopes.{find, map_values}

module _ {A B : Type 0} (f : A → B) where
  -- of one scope
  lookup-map : (test : ℕ → Bool) (scope : List (ℕ × A)) → lookup test (map {A = ℕ × A} {B = ℕ × B} (λ e. (e.0, f e.1)) scope) ≡ option_map f (lookup test scope)
  lookup-map test [] = refl
  lookup-map test (e ∷ scope) = by (test e.0) (lookup-map test scope)
    where
      by : (b : Bool) → lookup test (map {A = ℕ × A} {B = ℕ × B} (λ d. (d.0, f d.1)) scope) ≡ option_map f (lookup test scope) → cond b (Some (f e.1)) (lookup test (map {A = ℕ × A} {B = ℕ × B} (λ d. (d.0, f d.1)) scope)) ≡ option_map f (cond b (Some e.1) (lookup test scope))
      by true rest = refl
      by false rest = rest

  -- the first of two answers
  option_map-option_or : (o p : Option A) → option_or (option_map f o) (option_map f p) ≡ option_map f (option_or o p)
  option_map-option_or None p = refl
  option_map-option_or (Some x) p = refl

  -- of all scopes
  pub find-map_values : (name : ℕ) (scopes : List (List (ℕ × A))) → find name (map_values f scopes) ≡ option_map f (find name scopes)
  find-map_values name [] = refl
  find-map_values name (scope ∷ outer) = rw (lookup-map (nat_eq name) scope, find-map_values name outer) (option_map-option_or (lookup (nat_eq name) scope) (find name outer))
