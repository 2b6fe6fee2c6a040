-- Tests of all numbers below a bound, and of the value of an option, if there is one.
use Rattle.std.proofs.Common.{◌≡◌, ℕ, zero, suc, ◌<◌, Bool, true, ◌&&◌, Option, Some, None, List, length, refl, inl, inr}
use Rattle.std.specs.Option.{option_and_then}
use Rattle.std.specs.List.{slice_get}
use Rattle.std.proofs.lemmas.Bool.Decides.{Decides-below_and}
use Rattle.std.proofs.lemmas.Option.{slice_get_cases}

abbrev pub all_below : (ℕ → Bool) → ℕ → Bool
all_below test zero = true
all_below test (suc n) = test n && all_below test n

pub at_each : (test : ℕ → Bool) (n k : ℕ) → all_below test n ≡ true → k < n → test k ≡ true
at_each test n k holds within =
    (Decides-below_and test (λ j. test j ≡ true) (all_below test) (λ j. (λ h. h, λ h. h)) refl (λ _. refl) n).0 holds k within

abbrev pub if_some : {A : Type 0} → Option A → (A → Bool) → Bool
if_some None test = true
if_some (Some x) test = test x

pub if_some-at : {A : Type 0} (o : Option A) (x : A) (test : A → Bool) → o ≡ Some x → if_some o test ≡ true → test x ≡ true
if_some-at None x test is holds = cc
if_some-at (Some y) x test is holds = cc

-- an entry that is there stands inside the list
pub entry_within : {A : Type 0} (xs : List (Option A)) (k : ℕ) (x : A) → option_and_then (λ (o : Option A). o) (slice_get xs k) ≡ Some x → k < length xs
entry_within {A} xs k x is =
    elim (slice_get_cases xs k).1 [
      | inl w ↦ w.1
      | inr w ↦ let none : option_and_then (λ (o : Option A). o) None ≡ Some x = rw w.1 at is in cc
    ]
