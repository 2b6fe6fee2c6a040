-- The numbers of standard names.
use Rattle.std.proofs.Common.{◌≡◌, ◌≢◌, ℕ, suc, zero, ◌+◌, ◌-◌, ◌<◌, ◌≤◌, ◌⊎◌, inl, inr, List, [], ◌∷◌, ◌++◌, length, length-append, get_or, refl, sym, ap, ◌∙◌, arith}
use Rattle.std.specs.Prelude.{AllPairs}
use Rattle.std.proofs.lemmas.Cmp.{nat_list_eq_equiv}
use Rattle.std.proofs.lemmas.Map.Made.{IsDistinct-from_count, AllPairs-from_IsDistinct}
use Rattle.std.proofs.lemmas.Slice.Eq.{bytes_eq-Decides}
use Rattle.qasm_ast.specs.Whole.{Source}
use Rattle.qasm_ast.specs.Tree.{text_at}
use Rattle.open_names.specs.Texts.{texts, standard_names}
use Rattle.open_names.specs.Keys.{IsKey}
use Rattle.open_names.proofs.Texts.{text_at-append}

-- no two of them are the same
standard_differ : AllPairs (λ (a b : List ℕ). a ≢ b) standard_names
standard_differ = AllPairs-from_IsDistinct bytes_eq-Decides standard_names (IsDistinct-from_count nat_list_eq_equiv standard_names refl)

pub standard_are : length standard_names ≡ 38
standard_are = refl

text_at-get : (xs : List (List ℕ)) (n : ℕ) → text_at xs n ≡ get_or xs n []
text_at-get [] n = refl
text_at-get (x ∷ xs) zero = refl
text_at-get (x ∷ xs) (suc n) = text_at-get xs n

text_at-behind : (xs ys : List (List ℕ)) (n : ℕ) → length xs ≤ n → text_at (xs ++ ys) n ≡ text_at ys (n - length xs)
text_at-behind [] ys n h = ap (text_at ys) (let e : n ≡ n - 0 = omega arith in e)
text_at-behind (x ∷ xs) ys zero h = absurd (omega (arith, h))
text_at-behind (x ∷ xs) ys (suc n) h = text_at-behind xs ys n (omega (arith, h)) ∙ ap (text_at ys) (let e : n - length xs ≡ suc n - suc (length xs) = omega arith in e)

module _ (p : Source) (index : ℕ) (within : index < 38) where
  pub text_at-standard : text_at (texts p) (length p.names + index) ≡ text_at standard_names index
  text_at-standard =
      text_at-behind p.names standard_names (length p.names + index) (omega arith)
      ∙ ap (text_at standard_names) (let e : length p.names + index - length p.names ≡ index = omega arith in e)

  earlier_differ : (j : ℕ) → j < index → text_at standard_names j ≢ text_at standard_names index
  earlier_differ j less same =
      standard_differ j index [] less (omega (arith, standard_are, within)) (sym (text_at-get standard_names j) ∙ same ∙ text_at-get standard_names index)

  -- one that does not occur in the program
  pub IsKey-standard : ((k : ℕ) → k < length p.names → text_at p.names k ≢ text_at standard_names index) → IsKey (texts p) (length p.names + index)
  IsKey-standard absent = record {
    within = omega (arith, length-append p.names standard_names, standard_are, within);
    first = λ other less same. by other less (same ∙ text_at-standard) (cases other (length p.names));
  }
    where
      cases : (a b : ℕ) → (a < b) ⊎ (b ≤ a)
      cases a zero = inr (omega arith)
      cases zero (suc b) = inl (omega arith)
      cases (suc a) (suc b) = next (cases a b)
        where
          next : (a < b) ⊎ (b ≤ a) → (suc a < suc b) ⊎ (suc b ≤ suc a)
          next (inl h) = inl (omega (arith, h))
          next (inr h) = inr (omega (arith, h))

      by : (other : ℕ) → other < length p.names + index → text_at (texts p) other ≡ text_at standard_names index → (other < length p.names) ⊎ (length p.names ≤ other) → ⊥
      by other less same (inl before) = absent other before (sym (text_at-append p.names standard_names other before) ∙ same)
      by other less same (inr behind) = earlier_differ (other - length p.names) (omega (arith, less, behind)) (sym (text_at-behind p.names standard_names other behind) ∙ same)
