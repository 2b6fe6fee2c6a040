-- What is told of a name is found at its number.
use Rattle.std.proofs.Common.{◌≡◌, ℕ, Bool, suc, zero, ◌+◌, ◌<◌, List, [], ◌∷◌, length, Some, None, true, false, refl, ◌≤◌, arith}
use Rattle.std.specs.Prelude.{nat_eq, nat_lt, IsSome}
use Rattle.std.specs.List.{slice_get}
use Rattle.std.specs.Map.{lookup}
use Rattle.std.specs.Option.{option_map}
use Rattle.std.proofs.lemmas.Bool.Decides.{nat_tests}
use Rattle.std.proofs.lemmas.Bool.{false≢true}
use Rattle.std.proofs.lemmas.Option.{slice_get_past}
use Rattle.gate_cases.specs.declared.env.Entry.{Entry}
use Rattle.gate_cases.specs.Told.{numbered}

pub same_number : (m n : ℕ) → m ≡ n → nat_eq m n ≡ true
same_number m n e = grind (arith, nat_tests)

pub other_number : (m n k : ℕ) → m ≡ suc n + k → nat_eq m n ≡ false
other_number m n k e = grind (arith, nat_tests)

module _ {B : Type 0} (tell : Entry → B) where
  found_from : (n from k : ℕ) → (entries : List Entry) → n ≡ from + k → lookup (nat_eq n) (numbered tell from entries) ≡ option_map tell (slice_get entries k)
  found_from n from k [] e = refl
  found_from n from zero (entry ∷ entries) e = let same : nat_eq n from ≡ true = same_number n from (omega arith) in rw same refl
  found_from n from (suc k) (entry ∷ entries) e =
      let moved : n ≡ suc from + k = omega arith in
      let other : nat_eq n from ≡ false = other_number n from k moved in
      rw other (found_from n (suc from) k entries moved)

  -- a look-up gives what is told of the entry at the name's number
  pub found_at : (n : ℕ) (entries : List Entry) → lookup (nat_eq n) (numbered tell 0 entries) ≡ option_map tell (slice_get entries n)
  found_at n entries = found_from n 0 n entries (omega arith)

  pub found_entry : (n : ℕ) (entries : List Entry) (entry : Entry) → slice_get entries n ≡ Some entry → lookup (nat_eq n) (numbered tell 0 entries) ≡ Some (tell entry)
  found_entry n entries entry is = rw (found_at n entries, is) refl

  -- a name of which something is told has a place
  pub within : (n : ℕ) (entries : List Entry) → IsSome (lookup (nat_eq n) (numbered tell 0 entries)) → n < length entries
  within n entries some = in_place (nat_lt n (length entries)) refl
    where
      in_place : (b : Bool) → nat_lt n (length entries) ≡ b → n < length entries
      in_place true e = grind (arith, nat_tests)
      in_place false e =
          let past : length entries ≤ n = grind (arith, nat_tests) in
          let none : lookup (nat_eq n) (numbered tell 0 entries) ≡ None = rw (found_at n entries, slice_get_past entries n past) refl in
          absurd (false≢true (rw none at some))
