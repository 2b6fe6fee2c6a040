-- Lists of types, type by type.
use Rattle.std.proofs.Common.{◌≡◌, ℕ, suc, ◌+◌, ◌<◌, ◌≤◌, ◌&&◌, Bool, true, false, List, [], ◌∷◌, length, map, drop, get_or, refl, ap, ◌∙◌}
use Rattle.std.proofs.lemmas.List.{drop_more, drop_all}
use Rattle.qir_module.specs.Grammar.{ValueType, same_type, same_types}

and_false : (b : Bool) → (b && false) ≡ false
and_false true = refl
and_false false = refl

module _ {A B : Type 0} (f : A → ValueType) (t : B → ValueType) where
  -- the types of these and of those are the same
  abbrev pub fit : List A → List B → Bool
  fit xs ys = same_types (map f xs) (map t ys)

  pub lengths_differ : (xs : List A) (ys : List B) → (length ys ≡ length xs → ⊥) → fit xs ys ≡ false
  lengths_differ [] [] differ = absurd (differ refl)
  lengths_differ [] (y ∷ ys) differ = refl
  lengths_differ (x ∷ xs) [] differ = refl
  lengths_differ (x ∷ xs) (y ∷ ys) differ =
      ap (λ b. same_type (f x) (t y) && b) (lengths_differ xs ys (λ e. differ (ap suc e))) ∙ and_false (same_type (f x) (t y))

  pub fit_on : (i : ℕ) (xs : List A) (ys : List B) (d : A) (e : B) → i < length xs → i < length ys
      → fit (drop i xs) (drop i ys) ≡ (same_type (f (get_or xs i d)) (t (get_or ys i e)) && fit (drop (i + 1) xs) (drop (i + 1) ys))
  fit_on i xs ys d e in_xs in_ys =
      ap (λ zs. fit zs (drop i ys)) (drop_more xs i d in_xs) ∙ ap (λ zs. fit (get_or xs i d ∷ drop (i + 1) xs) zs) (drop_more ys i e in_ys)

  pub fit_past : (i : ℕ) (xs : List A) (ys : List B) → length xs ≤ i → length ys ≤ i → fit (drop i xs) (drop i ys) ≡ true
  fit_past i xs ys past_xs past_ys = ap (λ zs. fit zs (drop i ys)) (drop_all i xs past_xs) ∙ ap (λ zs. fit [] zs) (drop_all i ys past_ys)
