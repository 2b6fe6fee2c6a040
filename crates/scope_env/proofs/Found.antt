-- What a name finds in scopes that are read from the innermost outwards.
use Rattle.std.proofs.Common.{◌≡◌, ℕ, List, [], ◌∷◌, ◌++◌, Option, None, Some, nat_eq, refl, ap, ◌∙◌, reverse, is_none, ◌&&◌}
use Rattle.std.proofs.lemmas.List.{reverse-append}
use Rattle.std.specs.List.{list_all}
use Rattle.std.specs.Map.{lookup}
use Rattle.std.specs.Option.{option_or}
use Rattle.scope_env.specs.Scopes.{find}

module _ {A : Type 0} where
  -- the last of the outer scopes is asked first
  pub find-push : (name : ℕ) (rest next : List (List (ℕ × A))) (scope : List (ℕ × A)) → rest ≡ next ++ scope ∷ [] → find name (reverse rest) ≡ option_or (lookup (nat_eq name) scope) (find name (reverse next))
  find-push name rest next scope e = rw (e, reverse-append next (scope ∷ [])) refl

  is_none-option_or : (o p : Option A) → is_none (option_or o p) ≡ (is_none o && is_none p)
  is_none-option_or None p = refl
  is_none-option_or (Some x) p = refl

  -- nothing is found exactly where no scope has the name
  pub is_none-find : (name : ℕ) (scopes : List (List (ℕ × A))) → is_none (find name scopes) ≡ list_all (λ scope. is_none (lookup (nat_eq name) scope)) scopes
  is_none-find name [] = refl
  is_none-find name (scope ∷ outer) = is_none-option_or (lookup (nat_eq name) scope) (find name outer) ∙ ap (λ b. is_none (lookup (nat_eq name) scope) && b) (is_none-find name outer)
