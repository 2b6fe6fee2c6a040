-- The function of a name.
use Rattle.std.proofs.Common.{◌≡◌, ℕ, zero, suc, ◌+◌, ◌<◌, ◌≤◌, Bool, true, false, cond, List, Option, Some, None, refl, sym, ap, ◌∙◌, arith}
use Rattle.std.specs.Option.{option_map, IfSome, IfNone}
use Rattle.std.proofs.lemmas.Option.{slice_get_within}
use Rattle.std.proofs.lemmas.Slice.Eq.{bytes_eq-Decides}
use Rattle.qir_module.specs.declared.function.Function.{Function}
use Rattle.qir_module.specs.Functions.{Row, rows, row_of, IsNameOf, FunctionNamesDiffer}
use Rattle.qir_module.specs.Words.{has_name, named_from, function_named}
use Rattle.qir_reader.proofs.Tables.{same_is}

-- the test of a name tells whether it is that of the row
name_is : (name : List ℕ) (row : Option Row) → has_name name row ≡ true → option_map (λ (r : Row). r.name) row ≡ Some name
name_is name None is = cc
name_is name (Some row) is = ap Some ((bytes_eq-Decides row.name name).0 (sym (same_is row.name name) ∙ is))

is_name : (name : List ℕ) (row : Option Row) → option_map (λ (r : Row). r.name) row ≡ Some name → has_name name row ≡ true
is_name name None is = cc
is_name name (Some row) is = same_is row.name name ∙ (bytes_eq-Decides row.name name).1 (cc)

abbrev function_at : ℕ → Option Function
function_at place = Some (record { 0 = place })

abbrev no_function : Option Function
no_function = None

-- the function of a name stands at its place of the table
pub named_here : FunctionNamesDiffer → (n from place : ℕ) (name : List ℕ) → IsNameOf place name → from ≤ place → place < from + n
    → named_from n from name ≡ function_at place
named_here differ zero from place name is low high = absurd (omega arith)
named_here differ (suc n) from place name is low high = at (has_name name (row_of from)) refl (λ above. named_here differ n (suc from) place name is above (omega arith))
  where
    at : (b : Bool) → has_name name (row_of from) ≡ b → (suc from ≤ place → named_from n (suc from) name ≡ function_at place) → cond b (function_at from) (named_from n (suc from) name) ≡ function_at place
    at true here later = ap function_at (differ from place name (name_is name (row_of from) here) is)
    at false here later =
        let other : from ≡ place → ⊥ = λ equal. cc (ap (λ k. has_name name (row_of k)) equal, here, is_name name (row_of place) is) in
        later (omega (arith, other))

pub named_nowhere : (n from : ℕ) (name : List ℕ) → ((place : ℕ) → IsNameOf place name → ⊥) → named_from n from name ≡ None
named_nowhere zero from name none = refl
named_nowhere (suc n) from name none = at (has_name name (row_of from)) refl (named_nowhere n (suc from) name none)
  where
    at : (b : Bool) → has_name name (row_of from) ≡ b → named_from n (suc from) name ≡ None → cond b (function_at from) (named_from n (suc from) name) ≡ no_function
    at true here later = absurd (none from (name_is name (row_of from) here))
    at false here later = later

-- the function of which a name is told is the first of that name
pub function_is : FunctionNamesDiffer → (found : Option Function) (name : List ℕ) → IfSome found (λ f. IsNameOf f.0 name) → IfNone found ((place : ℕ) → IsNameOf place name → ⊥)
    → found ≡ function_named name
function_is differ None name some none = sym (named_nowhere 37 0 name none)
function_is differ (Some f) name some none = sym (named_here differ 37 0 f.0 name some (omega arith) (inside f.0 (row_of f.0) refl some))
  where
    inside : (place : ℕ) (row : Option Row) → row_of place ≡ row → option_map (λ (r : Row). r.name) row ≡ Some name → place < 0 + 37
    inside place None is named = absurd (cc)
    inside place (Some r) is named = omega (arith, slice_get_within rows place r is)
