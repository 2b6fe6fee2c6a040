-- The names of the library, one after another.
use Rattle.std.proofs.Common.{◌≡◌, ℕ, suc, zero, ◌+◌, ◌<◌, ◌||◌, Bool, true, false, List, [], ◌∷◌, length, drop, map, slice_get, Some, refl, ap, ◌∙◌, arith}
use Rattle.qasm_ast.specs.Tree.{text_at}
use Rattle.scope_env.specs.OpenScopes.{OpenScopes, Named, is_here}
use Rattle.source_meaning.specs.Library.{included}
use Rattle.open_names.specs.declared.slot.Slot.{Slot}
use Rattle.open_names.specs.declared.slot.Slot.TheVariants as slot
use Rattle.open_names.specs.Texts.{standard_names}
use Rattle.open_names.specs.Standing.{with_row_slots, has_one_of}

drop-here : {X : Type 0} (xs : List X) (k : ℕ) (x : X) → slice_get xs k ≡ Some x → drop k xs ≡ x ∷ drop (suc k) xs
drop-here [] k x found = cc
drop-here {X = X} (y ∷ xs) zero x found = let same : y ≡ x = cc in ap (λ (z : X). z ∷ xs) same
drop-here (y ∷ xs) (suc k) x found = drop-here xs k x found

dropped : {X : Type 0} (xs : List X) (k : ℕ) (x : X) → slice_get xs k ≡ Some x → drop k xs ≡ x ∷ drop (k + 1) xs
dropped {X} xs k x found = drop-here xs k x found ∙ ap (λ (n : ℕ). x ∷ drop n xs) (let e : suc k ≡ k + 1 = omega arith in e)

-- ---- entries

record Entry (entries : List (List ℕ × ℕ)) (k : ℕ) (text : List ℕ) : Type 0 where
  pub row : ℕ
  pub is : slice_get entries k ≡ Some (text, row)

entry_at : (entries : List (List ℕ × ℕ)) (k : ℕ) → k < length entries → Entry entries k (text_at (map (λ (entry : List ℕ × ℕ). entry.0) entries) k)
entry_at [] k within = absurd (omega (arith, within))
entry_at (entry ∷ entries) zero within = record { row = entry.1; is = refl }
entry_at (entry ∷ entries) (suc k) within = let rest : Entry entries k (text_at (map (λ (e : List ℕ × ℕ). e.0) entries) k) = entry_at entries k (omega (arith, within)) in record { row = rest.row; is = rest.is }

standard_text : (k : ℕ) → text_at (map (λ (entry : List ℕ × ℕ). entry.0) included) k ≡ text_at standard_names (k + 6)
standard_text k = ap (text_at standard_names) (let e : suc (suc (suc (suc (suc (suc k))))) ≡ k + 6 = omega arith in e)

included_are : length included ≡ 32
included_are = refl

entry_of : (k : ℕ) → k < 32 → Entry included k (text_at standard_names (k + 6))
entry_of k within =
    let entry : Entry included k (text_at (map (λ (e : List ℕ × ℕ). e.0) included) k) = entry_at included k (omega (arith, included_are, within)) in
    record { row = entry.row; is = entry.is ∙ ap (λ (text : List ℕ). Some (text, entry.row)) (standard_text k) }

-- ---- whether one of them is there

module _ {A : Type 0} (scopes : OpenScopes A) where
  is_one : (entries : List (List ℕ × ℕ)) (k : ℕ) (entry : List ℕ × ℕ) (here : Bool) → slice_get entries k ≡ Some entry → is_here entry.0 scopes ≡ here → has_one_of (drop k entries) scopes ≡ (here || has_one_of (drop (k + 1) entries) scopes)
  is_one entries k entry here found is = ap (λ (es : List (List ℕ × ℕ)). has_one_of es scopes) (dropped entries k entry found) ∙ ap (λ (b : Bool). b || has_one_of (drop (k + 1) entries) scopes) is

  pub has_one-there : (k : ℕ) → k < 32 → is_here (text_at standard_names (k + 6)) scopes ≡ true → has_one_of (drop k included) scopes ≡ true
  has_one-there k within there = let entry : Entry included k (text_at standard_names (k + 6)) = entry_of k within in is_one included k (text_at standard_names (k + 6), entry.row) true entry.is there

  pub has_one-later : (k : ℕ) → k < 32 → is_here (text_at standard_names (k + 6)) scopes ≡ false → has_one_of (drop k included) scopes ≡ has_one_of (drop (k + 1) included) scopes
  has_one-later k within absent = let entry : Entry included k (text_at standard_names (k + 6)) = entry_of k within in is_one included k (text_at standard_names (k + 6), entry.row) false entry.is absent

-- ---- their rows

pub rows-step : {A : Type 0} (entries : List (List ℕ × ℕ)) (k : ℕ) (entry : List ℕ × ℕ) (scopes : OpenScopes (Slot A)) → slice_get entries k ≡ Some entry → with_row_slots (drop k entries) scopes ≡ with_row_slots (drop (k + 1) entries) (Named entry.0 (slot.Row (record { 0 = entry.1 })) scopes)
rows-step entries k entry scopes found = ap (λ (es : List (List ℕ × ℕ)). with_row_slots es scopes) (dropped entries k entry found)
