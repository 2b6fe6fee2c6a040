-- What a name stands for in open scopes.
use Rattle.std.proofs.Common.{◌≡◌, ℕ, Bool, true, false, List, Some, refl, sym, ◌∙◌, cond}
use Rattle.std.specs.Cmp.Lexicographic.{nat_list_eq_equiv}
use Rattle.std.specs.Option.{option_map}
use Rattle.scope_env.specs.OpenScopes.{OpenScopes, Outside, Opened, Sealed, Named, is_same, find, assign, close, map_scopes}

-- a text is itself
is_same-itself : (x : List ℕ) → is_same x x ≡ true
is_same-itself x = nat_list_eq_equiv.refl x

-- a text that is not y is no text that y is
is_same-through : (x y z : List ℕ) → is_same y z ≡ true → is_same x y ≡ false → is_same x z ≡ false
is_same-through x y z same other = nat_list_eq_equiv.symm x z ∙ sym (nat_list_eq_equiv.congr y z x same) ∙ nat_list_eq_equiv.symm y x ∙ other

module _ {A : Type 0} where
  pub find-named : (x : List ℕ) (a : A) (scopes : OpenScopes A) → find x (Named x a scopes) ≡ Some a
  find-named x a scopes = rw (is_same-itself x) refl

  pub find-assign : (x y : List ℕ) (a : A) (scopes : OpenScopes A) → is_same x y ≡ false → find x (assign y a scopes) ≡ find x scopes
  find-assign x y a Outside other = refl
  find-assign x y a (Opened outer) other = find-assign x y a outer other
  find-assign x y a (Sealed seen callers) other = refl
  find-assign x y a (Named z b rest) other = by (is_same y z) refl (find-assign x y a rest other)
    where
      by : (same : Bool) → is_same y z ≡ same → find x (assign y a rest) ≡ find x rest → find x (cond same (Named z a rest) (Named z b (assign y a rest))) ≡ find x (Named z b rest)
      by true e rest_is = rw (is_same-through x y z e other) refl
      by false e rest_is = rw rest_is refl

module _ {A B : Type 0} (f : A → B) where
  pub find-map_scopes : (x : List ℕ) (scopes : OpenScopes A) → find x (map_scopes f scopes) ≡ option_map f (find x scopes)
  find-map_scopes x Outside = refl
  find-map_scopes x (Opened outer) = find-map_scopes x outer
  find-map_scopes x (Sealed seen callers) = find-map_scopes x seen
  find-map_scopes x (Named y a rest) = by (is_same x y) (find-map_scopes x rest)
    where
      by : (same : Bool) → find x (map_scopes f rest) ≡ option_map f (find x rest) → cond same (Some (f a)) (find x (map_scopes f rest)) ≡ option_map f (cond same (Some a) (find x rest))
      by true rest_is = refl
      by false rest_is = rest_is

  pub close-map_scopes : (scopes : OpenScopes A) → close (map_scopes f scopes) ≡ map_scopes f (close scopes)
  close-map_scopes Outside = refl
  close-map_scopes (Opened outer) = refl
  close-map_scopes (Sealed seen callers) = refl
  close-map_scopes (Named x a rest) = close-map_scopes rest
