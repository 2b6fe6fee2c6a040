-- What is known of names, numerals and labels, and that a function is told by its name.
use Rattle.std.proofs.Common.{◌≡◌, ℕ, zero, suc, ◌+◌, ◌<◌, ◌≤◌, ◌==◌, ◌&&◌, Bool, true, false, cond, List, [], ◌∷◌, Option, Some, None, sym, refl, ap, ◌∙◌, arith, inl, inr}
use Rattle.std.specs.Prelude.{All}
use Rattle.std.specs.List.{flat_map}
use Rattle.std.specs.Option.{option_map}
use Rattle.std.specs.Fmt.{decimal}
use Rattle.std.proofs.lemmas.Bool.Decides.{nat_tests, leb_tells}
use Rattle.qir_module.specs.declared.function.Function.{Function}
use Rattle.qir_module.specs.Functions.{Row, row_of, FunctionNamesDiffer}
use Rattle.qir_module.specs.Module.{IsNumber, IsByte, IsFunction}
use Rattle.qir_module.specs.Text.{escaped}
use Rattle.qir_module.specs.Tokens.{IsWord, bytes_meant}
use Rattle.qir_module.specs.Words.{Numeral, same, has_name, named_from, function_named, text_of}
use Rattle.qir_module.specs.Written.{row_name}

-- what the laws of the layers below say
pub record Known : Type 0 where
  pub differ : FunctionNamesDiffer
  pub row : (function : Function) → IsFunction function → (row : Row) × (row_of function.0 ≡ Some row) × IsWord row.name
  pub numeral : (n : ℕ) → IsNumber n → text_of (decimal n) ≡ Numeral n
  pub meant : (bytes : List ℕ) → All IsByte bytes → bytes_meant (flat_map escaped bytes) ≡ bytes

-- the function of a shaped module by the name that is written for it
pub record Tells (function : Function) : Type 0 where
  pub told : function_named (row_name (row_of function.0)) ≡ Some function

-- ---- the functions by their names

same_self : (cs : List ℕ) → same cs cs ≡ true
same_self [] = refl
same_self (c ∷ cs) = let first : (c == c) ≡ true = grind (arith, nat_tests) in ap (λ b. b && same cs cs) first ∙ same_self cs

same_lists : (cs ds : List ℕ) → same cs ds ≡ true → cs ≡ ds
same_lists [] [] e = refl
same_lists [] (d ∷ ds) e = absurd (cc)
same_lists (c ∷ cs) [] e = absurd (cc)
same_lists (c ∷ cs) (d ∷ ds) e = by (c == d) refl (same_lists cs ds) e
  where
    by : (b : Bool) → (c == d) ≡ b → (same cs ds ≡ true → cs ≡ ds) → (b && same cs ds) ≡ true → c ∷ cs ≡ d ∷ ds
    by true f h e = let head : c ≡ d = grind (arith, nat_tests) in let tail = h e in cc
    by false f h e = absurd (cc)

named_is : (name : List ℕ) (row : Option Row) → has_name name row ≡ true → option_map (λ (r : Row). r.name) row ≡ Some name
named_is name None e = absurd (cc)
named_is name (Some row) e = ap Some (same_lists row.name name e)

module _ (known : Known) where
  first_named : (n place goal : ℕ) (row : Row) → n + place ≡ 37 → place ≤ goal → goal < 37 → row_of goal ≡ Some row → named_from n place row.name ≡ Some (record { 0 = goal })
  first_named zero place goal row count low high e = absurd (omega arith)
  first_named (suc n) place goal row count low high e = by (has_name row.name (row_of place)) refl (first_named n (suc place) goal row (omega arith))
    where
      here : has_name row.name (row_of goal) ≡ true
      here = ap (has_name row.name) e ∙ same_self row.name

      by : (b : Bool) → has_name row.name (row_of place) ≡ b → (suc place ≤ goal → goal < 37 → row_of goal ≡ Some row → named_from n (suc place) row.name ≡ Some (record { 0 = goal })) →
          cond b (Some (record { 0 = place })) (named_from n (suc place) row.name) ≡ Some (record { 0 = goal })
      by true f h = ap (λ (k : ℕ). Some (record { 0 = k })) (known.differ place goal row.name (named_is row.name (row_of place) f) (named_is row.name (row_of goal) here))
      by false f h =
          elim (leb_tells (suc place) goal) [
            | inl v ↦ h v.1 high e
            | inr v ↦ let at : place ≡ goal = omega (arith, v.1) in absurd (let x : true ≡ false = sym here ∙ ap (λ (k : ℕ). has_name row.name (row_of k)) (sym at) ∙ f in cc)
          ]

  pub tells : (function : Function) → IsFunction function → Tells function
  tells f h =
      let found = known.row f h in
      record { told = ap (λ row. function_named (row_name row)) found.1 ∙ first_named 37 0 f.0 found.0 refl (omega arith) h found.1 ∙ ap (λ row. Some f) found.1 }
