-- What a table has for a spelling.
use Rattle.std.proofs.Common.{◌≡◌, ℕ, ◌+◌, ◌≤◌, ◌&&◌, Bool, true, false, cond, List, [], ◌∷◌, length, drop, Some, refl, ap, ◌∙◌}
use Rattle.std.specs.Prelude.{◌==◌}
use Rattle.std.specs.Str.{bytes_eq}
use Rattle.std.specs.List.{slice_get}
use Rattle.std.proofs.lemmas.List.{drop_more, at_drop_all}
use Rattle.std.proofs.lemmas.Option.{slice_get_within, get_or_from_slice_get}
use Rattle.qir_module.specs.Words.{same, looked_up}

-- the test of a table is that of slices
pub same_is : (xs ys : List ℕ) → same xs ys ≡ bytes_eq xs ys
same_is [] [] = refl
same_is [] (y ∷ ys) = refl
same_is (x ∷ xs) [] = refl
same_is (x ∷ xs) (y ∷ ys) = ap (λ b. (x == y) && b) (same_is xs ys)

module _ {A : Type 0} (other : A) (rows : List (List ℕ × A)) (i : ℕ) (cs : List ℕ) where
  abbrev chosen : List ℕ × A → Bool → A
  chosen row b = cond b row.1 (looked_up other (drop (i + 1) rows) cs)

  looked_at : (row : List ℕ × A) → slice_get rows i ≡ Some row → looked_up other (drop i rows) cs ≡ chosen row (bytes_eq row.0 cs)
  looked_at row is =
      ap (λ rs. looked_up other rs cs) (drop_more rows i row (slice_get_within rows i row is) ∙ ap (λ r. r ∷ drop (i + 1) rows) (get_or_from_slice_get rows i row row is))
      ∙ ap (chosen row) (same_is row.0 cs)

  -- the row at a place has the spelling
  pub looked_here : (row : List ℕ × A) → slice_get rows i ≡ Some row → bytes_eq row.0 cs ≡ true → looked_up other (drop i rows) cs ≡ row.1
  looked_here row is here = looked_at row is ∙ ap (chosen row) here

  -- it has another
  pub looked_on : (row : List ℕ × A) → slice_get rows i ≡ Some row → bytes_eq row.0 cs ≡ false → looked_up other (drop i rows) cs ≡ looked_up other (drop (i + 1) rows) cs
  looked_on row is here = looked_at row is ∙ ap (chosen row) here

  -- no row is left
  pub looked_past : length rows ≤ i → looked_up other (drop i rows) cs ≡ other
  looked_past past = at_drop_all (λ rs. looked_up other rs cs) rows i past
