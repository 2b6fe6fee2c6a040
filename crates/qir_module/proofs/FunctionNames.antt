-- No two functions have one name, by the test of all pairs of the table.
use Rattle.std.proofs.Common.{◌≡◌, ◌≢◌, ℕ, zero, suc, ◌<◌, List, [], ◌∷◌, length, map, get_or, AllPairs, Some, refl, sym, ◌∙◌, arith, inl, inr}
use Rattle.std.specs.List.{slice_get}
use Rattle.std.specs.Option.{option_map}
use Rattle.std.proofs.lemmas.Bool.Decides.{leb_tells}
use Rattle.std.proofs.lemmas.Cmp.{nat_list_eq_equiv}
use Rattle.std.proofs.lemmas.Map.Made.{IsDistinct-from_count, AllPairs-from_IsDistinct}
use Rattle.std.proofs.lemmas.Slice.Eq.{bytes_eq-Decides}
use Rattle.qir_module.specs.Functions.{Row, rows, IsNameOf, FunctionNamesDiffer}

abbrev names : List (List ℕ)
names = map (λ (row : Row). row.name) rows

names_differ : AllPairs (λ a b. a ≢ b) names
names_differ = AllPairs-from_IsDistinct bytes_eq-Decides names (IsDistinct-from_count nat_list_eq_equiv names refl)

-- a name stands at the place of its function
pub named_at : (rs : List Row) (place : ℕ) (name : List ℕ) → option_map (λ (row : Row). row.name) (slice_get rs place) ≡ Some name
    → (place < length rs) × (get_or (map (λ (row : Row). row.name) rs) place [] ≡ name)
named_at [] place name is = cc
named_at (row ∷ rs) zero name is = (omega arith, cc)
named_at (row ∷ rs) (suc place) name is =
    let behind = named_at rs place name is in
    (omega (arith, behind.0), behind.1)

not_below : (a b : ℕ) (name : List ℕ) → IsNameOf a name → IsNameOf b name → a < b → ⊥
not_below a b name first second below =
    let there : b < 37 = (named_at rows b name second).0 in
    names_differ a b [] below there ((named_at rows a name first).1 ∙ sym (named_at rows b name second).1)

pub function_names_differ : FunctionNamesDiffer
function_names_differ a b name first second =
    elim (leb_tells b a) [
      | inl w ↦
          elim (leb_tells a b) [
            | inl v ↦ omega (arith, w.1, v.1)
            | inr v ↦ absurd (not_below b a name second first v.1)
          ]
      | inr w ↦ absurd (not_below a b name first second w.1)
    ]
