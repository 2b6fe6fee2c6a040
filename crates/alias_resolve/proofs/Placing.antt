-- Numbers that are placed one by one.
use Rattle.std.proofs.Common.{◌≡◌, ℕ, ◌+◌, ◌<◌, ◌≤◌, suc, List, [], ◌∷◌, ◌++◌, map, length, drop, get_or, ℤ, None, Some, Result, Ok, Err, refl, sym, ap, append_assoc, add-one}
use Rattle.std.proofs.lemmas.List.{append-nil}
use Rattle.std.proofs.Math.ListN.{drop_of_length-le}
use Rattle.std.proofs.Math.Seq.{drop-cons}
use Rattle.alias_resolve.specs.declared.select.SelectFault.{SelectFault}
use Rattle.alias_resolve.specs.Numbers.{place_of, from_start}
use Rattle.alias_resolve.specs.Places.{and_then, places_in}

-- places that were found already, in front of an answer
abbrev pub behind : List ℕ → Result (List ℕ) SelectFault → Result (List ℕ) SelectFault
behind places answer = and_then answer (λ later. Ok (places ++ later))

pub behind-nothing : (answer : Result (List ℕ) SelectFault) → answer ≡ behind [] answer
behind-nothing (Ok places) = refl
behind-nothing (Err fault) = refl

behind-first : (places : List ℕ) (place : ℕ) (answer : Result (List ℕ) SelectFault) → behind places (and_then answer (λ later. Ok (place ∷ later))) ≡ behind (places ++ place ∷ []) answer
behind-first places place (Ok later) = ap Ok (sym (append_assoc places (place ∷ []) later))
behind-first places place (Err fault) = refl

module _ (fault_at : ℕ → SelectFault) (n : ℕ) where
  -- a number that is a place
  pub behind-place : (places : List ℕ) (before : ℕ) (number : ℤ) (numbers : List ℤ) (place : ℕ) → place_of n number ≡ Some place
      → behind places (places_in fault_at n before (number ∷ numbers)) ≡ behind (places ++ place ∷ []) (places_in fault_at n (suc before) numbers)
  behind-place places before number numbers place e = rw e (behind-first places place (places_in fault_at n (suc before) numbers))

  -- a number that is none
  pub behind-outside : (places : List ℕ) (before : ℕ) (number : ℤ) (numbers : List ℤ) → place_of n number ≡ None
      → behind places (places_in fault_at n before (number ∷ numbers)) ≡ Err (fault_at before)
  behind-outside places before number numbers e = rw e refl

  -- no number
  pub behind-end : (places : List ℕ) (before : ℕ) → behind places (places_in fault_at n before []) ≡ Ok places
  behind-end places before = ap Ok (append-nil places)

  -- the member of a set at its place
  pub behind-member : (members : List ℤ) (places : List ℕ) (member : ℕ) (d : ℤ) (place : ℕ) → member < length members → place_of n (from_start n (get_or members member d)) ≡ Some place
      → behind places (places_in fault_at n member (map (from_start n) (drop member members))) ≡ behind (places ++ place ∷ []) (places_in fault_at n (member + 1) (map (from_start n) (drop (member + 1) members)))
  behind-member members places member d place lt e =
      rw (drop-cons members member d lt, add-one member) (behind-place places member (from_start n (get_or members member d)) (map (from_start n) (drop (suc member) members)) place e)

  pub behind-other : (members : List ℤ) (places : List ℕ) (member : ℕ) (d : ℤ) → member < length members → place_of n (from_start n (get_or members member d)) ≡ None
      → behind places (places_in fault_at n member (map (from_start n) (drop member members))) ≡ Err (fault_at member)
  behind-other members places member d lt e =
      rw (drop-cons members member d lt) (behind-outside places member (from_start n (get_or members member d)) (map (from_start n) (drop (suc member) members)) e)

  -- all members
  pub behind-all : (members : List ℤ) (places : List ℕ) (member : ℕ) → length members ≤ member → behind places (places_in fault_at n member (map (from_start n) (drop member members))) ≡ Ok places
  behind-all members places member le = rw (drop_of_length-le members le) (behind-end places member)
