-- Answers of definitions that go step by step.
use Rattle.std.proofs.Common.{◌≡◌, ℕ, ◌<◌, Bool, true, false, List, ◌∷◌, ℤ, pos, negsuc, suc, Option, None, Some, Result, Ok, Err, refl, ap, arith, nat_lt, cond}
use Rattle.std.proofs.lemmas.Grind.{common_steps}
use Rattle.alias_resolve.specs.declared.select.SelectFault.{SelectFault}
use Rattle.alias_resolve.specs.Numbers.{place_of}
use Rattle.alias_resolve.specs.Places.{and_then, placed, places_in}

-- where two steps give a value, the first gave one
pub and_then-Ok : {A B : Type 0} (r : Result A SelectFault) (f : A → Result B SelectFault) (y : B) → and_then r f ≡ Ok y → (x : A) × (r ≡ Ok x) × (f x ≡ Ok y)
and_then-Ok (Ok x) f y e = (x, refl, e)
and_then-Ok (Err fault) f y e = absurd cc

pub placed-Ok : (fault : SelectFault) (o : Option ℕ) (place : ℕ) → placed fault o ≡ Ok place → o ≡ Some place
placed-Ok fault None place e = absurd cc
placed-Ok fault (Some q) place e = cc

-- a place is below the length, and stands for its own number
pub place_of-Some : (n : ℕ) (number : ℤ) (place : ℕ) → place_of n number ≡ Some place → (number ≡ pos place) × (place < n)
place_of-Some n (pos a) place e = by (nat_lt a n) refl e
  where
    by : (b : Bool) → nat_lt a n ≡ b → cond b (Some a) None ≡ Some place → (pos a ≡ pos place) × (place < n)
    by true lt e = let same : a ≡ place = cc in (ap pos same, grind (arith, common_steps))
    by false lt e = absurd cc
place_of-Some n (negsuc a) place e = absurd cc

-- the answer on a first number and others
pub record Parts (fault_at : ℕ → SelectFault) (n before : ℕ) (number : ℤ) (numbers : List ℤ) (places : List ℕ) : Type 0 where
  pub place : ℕ
  pub later : List ℕ
  pub is_place : place_of n number ≡ Some place
  pub are_places : places_in fault_at n (suc before) numbers ≡ Ok later
  pub all : places ≡ place ∷ later

pub places_in-Ok : (fault_at : ℕ → SelectFault) (n before : ℕ) (number : ℤ) (numbers : List ℤ) (places : List ℕ) → places_in fault_at n before (number ∷ numbers) ≡ Ok places → Parts fault_at n before number numbers places
places_in-Ok fault_at n before number numbers places e =
    let first = and_then-Ok (placed (fault_at before) (place_of n number)) _ places e in
    let rest = and_then-Ok (places_in fault_at n (suc before) numbers) _ places first.2 in
    record {
      place = first.0;
      later = rest.0;
      is_place = placed-Ok (fault_at before) (place_of n number) first.0 first.1;
      are_places = rest.1;
      all = cc rest.2;
    }
