-- What is selected lies in the register, and is no longer than what a u32 counts.
use Rattle.std.proofs.Common.{◌≡◌, ◌≢◌, ℕ, zero, suc, ◌+◌, ◌<◌, ◌≤◌, ◌^◌, Bool, true, false, List, [], ◌∷◌, ◌++◌, map, length, ℤ, pos, Option, None, Some, Result, Ok, Err, refl, sym, ap, ◌∙◌, subst, arith, cond, slice_get, unwrap_or, drop, get_or, add-one, All}
use Rattle.std.proofs.lemmas.List.Elements.{All-from_recursion}
use Rattle.std.proofs.lemmas.List.{length-map}
use Rattle.std.proofs.Math.Seq.{drop-cons}
use Rattle.std.proofs.Math.ListN.{drop_of_length-le}
use Rattle.std.specs.List.{AllByRecursion, range_with_len, cons_option}
use Rattle.std.specs.Ordering.{int_eq}
use Rattle.std.proofs.lemmas.List.FromFn.{length-range_with_len}
use Rattle.alias_resolve.specs.declared.index.IndexValue.{IndexValue}
use Rattle.alias_resolve.specs.declared.index.IndexValue.TheVariants.{At, Range, Set}
use Rattle.alias_resolve.specs.declared.select.SelectFault.{SelectFault}
use Rattle.alias_resolve.specs.declared.select.SelectFault.TheVariants.{IndexRange, StepZero, NotRegister}
use Rattle.alias_resolve.specs.Numbers.{from_start, range_of, place_of}
use Rattle.alias_resolve.specs.Places.{Selected, and_then, placed, places_in, places_of_range, selected_by, items_at, narrowed, narrowed_by, positions_of, register_of, HasFewMembers}
use Rattle.alias_resolve.proofs.Answers.{and_then-Ok, placed-Ok, place_of-Some, places_in-Ok}
use Rattle.alias_resolve.proofs.Ranges.{length-counted}

-- all places are below n
abbrev pub AreBelow : ℕ → List ℕ → Type 0
AreBelow n places = AllByRecursion (λ place. place < n) places

-- a u32 counts them, and all are in a register of n
pub record Fits (n : ℕ) (places : List ℕ) : Type 0 where
  pub few : length places < 2 ^ 32
  pub below : AreBelow n places

-- placed numbers are in the register, as many as there were
placed_all : (fault_at : ℕ → SelectFault) (n before : ℕ) (numbers : List ℤ) (places : List ℕ) → places_in fault_at n before numbers ≡ Ok places → AreBelow n places × (length places ≡ length numbers)
placed_all fault_at n before [] places e = let none : [] ≡ places = cc in rw (← none) (tt, refl)
placed_all fault_at n before (number ∷ numbers) places e =
    let parts = places_in-Ok fault_at n before number numbers places e in
    let rest = placed_all fault_at n (suc before) numbers parts.later parts.are_places in
    rw parts.all (((place_of-Some n number parts.place parts.is_place).1, rest.0), ap suc rest.1)

-- a bracket
pub Fits-selected_by : (index n : ℕ) (bracket : IndexValue) (s : Selected ℕ) → n < 2 ^ 32 → HasFewMembers bracket → selected_by index n bracket ≡ Ok s → Fits n s.items
Fits-selected_by index n (At position) s small few e =
    let one = and_then-Ok (placed (IndexRange index 0) (place_of n (from_start n position))) _ s e in
    let below = place_of-Some n (from_start n position) one.0 (placed-Ok (IndexRange index 0) (place_of n (from_start n position)) one.0 one.1) in
    let items : one.0 ∷ [] ≡ s.items = cc one.2 in
    rw (← items) (record { few = omega arith; below = (below.1, tt) })
Fits-selected_by index n (Range start step stop) s small few e =
    let many = and_then-Ok (places_of_range index n start (unwrap_or step (pos 1)) stop) _ s e in
    let items : many.0 ≡ s.items = cc many.2 in
    rw (← items) (of_range (unwrap_or step (pos 1)) many.0 many.1)
  where
    of_range : (step : ℤ) (places : List ℕ) → places_of_range index n start step stop ≡ Ok places → Fits n places
    of_range step places e = by (int_eq step (pos 0)) refl e
      where
        by : (b : Bool) → int_eq step (pos 0) ≡ b → cond b (Err (StepZero index)) (places_in (λ _. IndexRange index 0) n 0 (range_of n start step stop)) ≡ Ok places → Fits n places
        by true z e = absurd cc
        by false z e =
            let below = placed_all (λ _. IndexRange index 0) n 0 (range_of n start step stop) places e in
            let ne : step ≢ pos 0 = λ same. let yes : int_eq step (pos 0) ≡ true = rw same refl in cc in
            let long = length-counted (λ _. IndexRange index 0) n 0 _ step _ _ places ne e in
            record { few = omega (arith, long.1); below = below.0 }
Fits-selected_by index n (Set members) s small few e =
    let many = and_then-Ok (places_in (λ member. IndexRange index member) n 0 (map (from_start n) members)) _ s e in
    let items : many.0 ≡ s.items = cc many.2 in
    let all = placed_all (λ member. IndexRange index member) n 0 (map (from_start n) members) many.0 many.1 in
    rw (← items) (record { few = omega (arith, all.1, length-map members (from_start n), few); below = all.0 })

-- items at places are some of the items, and no more than there are places
items_below : (n : ℕ) (items places : List ℕ) → AreBelow n items → AreBelow n (items_at items places) × (length (items_at items places) ≤ length places)
items_below n items [] all = (tt, omega arith)
items_below n items (place ∷ places) all = by (slice_get items place) refl (items_below n items places all)
  where
    found : (items : List ℕ) (place x : ℕ) → AreBelow n items → slice_get items place ≡ Some x → x < n
    found [] place x all e = absurd cc
    found (y ∷ ys) zero x all e = let same : y ≡ x = cc in rw (← same) all.0
    found (y ∷ ys) (suc k) x all e = found ys k x all.1 e

    by : (o : Option ℕ) → slice_get items place ≡ o → AreBelow n (items_at items places) × (length (items_at items places) ≤ length places)
        → AreBelow n (cons_option o (items_at items places)) × (length (cons_option o (items_at items places)) ≤ suc (length places))
    by None e rest = (rest.0, omega (arith, rest.1))
    by (Some x) e rest = ((found items place x all e, rest.0), omega (arith, rest.1))

-- a bracket behind others
pub Fits-narrowed : (n index : ℕ) (s later : Selected ℕ) (bracket : IndexValue) → Fits n s.items → HasFewMembers bracket → narrowed index s bracket ≡ Ok later → Fits n later.items
Fits-narrowed n index s later bracket fits few e = by s.single e
  where
    by : (b : Bool) → cond b (Err (NotRegister index)) (and_then (selected_by index (length s.items) bracket) (λ inner. Ok (record { items = items_at s.items inner.items; single = inner.single }))) ≡ Ok later → Fits n later.items
    by true e = absurd cc
    by false e =
        let inner = and_then-Ok (selected_by index (length s.items) bracket) _ later e in
        let places = Fits-selected_by index (length s.items) bracket inner.0 fits.few few inner.1 in
        let some = items_below n s.items inner.0.items fits.below in
        let items : items_at s.items inner.0.items ≡ later.items = cc inner.2 in
        rw (← items) (record { few = omega (arith, some.1, places.few); below = some.0 })

-- ---- the first bracket

slice_get-range : (a n k : ℕ) → k < n → slice_get (range_with_len a n) k ≡ Some (a + k)
slice_get-range a zero k lt = absurd (omega arith)
slice_get-range a (suc n) zero lt = ap Some (omega arith)
slice_get-range a (suc n) (suc k) lt = slice_get-range (a + 1) n k (omega arith) ∙ ap Some (omega arith)

items_at-range : (n : ℕ) (places : List ℕ) → AreBelow n places → items_at (range_with_len 0 n) places ≡ places
items_at-range n [] all = refl
items_at-range n (place ∷ places) all =
    let here : slice_get (range_with_len 0 n) place ≡ Some place = slice_get-range 0 n place all.0 ∙ ap Some (omega arith) in
    rw (here, items_at-range n places all.1) refl

-- the first bracket counts in the register itself
pub narrowed-register : (n : ℕ) (bracket : IndexValue) → n < 2 ^ 32 → HasFewMembers bracket → narrowed 0 (register_of (range_with_len 0 n)) bracket ≡ selected_by 0 n bracket
narrowed-register n bracket small few = rw (length-range_with_len 0 n) (by (selected_by 0 n bracket) refl)
  where
    by : (r : Result (Selected ℕ) SelectFault) → selected_by 0 n bracket ≡ r → and_then r (λ inner. Ok (record { items = items_at (range_with_len 0 n) inner.items; single = inner.single })) ≡ r
    by (Ok s) e = ap (λ (items : List ℕ). Ok (record { items = items; single = s.single })) (items_at-range n s.items (Fits-selected_by 0 n bracket s small few e).below)
    by (Err fault) e = refl

-- ---- the brackets behind it

-- the bracket at k comes next
pub narrowed_by-drop : (index : ℕ) (s : Selected ℕ) (later : List IndexValue) (k : ℕ) (bracket : IndexValue) → k < length later → bracket ≡ get_or later k bracket
    → narrowed_by index s (drop k later) ≡ and_then (narrowed index s bracket) (λ t. narrowed_by (index + 1) t (drop (k + 1) later))
narrowed_by-drop index s later k bracket lt is = rw (drop-cons later k bracket lt, ← is, add-one k, add-one index) refl

-- and none behind the last
pub narrowed_by-end : (index : ℕ) (s : Selected ℕ) (later : List IndexValue) (k : ℕ) → length later ≤ k → narrowed_by index s (drop k later) ≡ Ok s
narrowed_by-end index s later k le = rw (drop_of_length-le later le) refl

-- the first bracket, and those behind it
pub positions_of-first : (n : ℕ) (index : List IndexValue) (first : IndexValue) (later : List IndexValue) → index ≡ first ∷ later → n < 2 ^ 32 → HasFewMembers first
    → positions_of n index ≡ and_then (selected_by 0 n first) (λ s. narrowed_by 1 s later)
positions_of-first n index first later e small few = rw e (ap (λ (r : Result (Selected ℕ) SelectFault). and_then r (λ s. narrowed_by 1 s later)) (narrowed-register n first small few))

-- ---- all places

pub range-push : (a n : ℕ) → range_with_len a (n + 1) ≡ range_with_len a n ++ (a + n) ∷ []
range-push a zero = ap (λ (k : ℕ). k ∷ []) (omega arith)
range-push a (suc n) = let next : range_with_len (a + 1) (n + 1) ≡ range_with_len (a + 1) n ++ (a + 1 + n) ∷ [] = range-push (a + 1) n in let same : a + 1 + n ≡ a + suc n = omega arith in let more : suc n + 1 ≡ suc (n + 1) = omega arith in rw (more, next, same) refl

range_below : (n a m : ℕ) → a + m ≤ n → AreBelow n (range_with_len a m)
range_below n a zero le = tt
range_below n a (suc m) le = (omega arith, range_below n (a + 1) m (omega arith))

pub All-range : (n : ℕ) → All (λ place. place < n) (range_with_len 0 n)
All-range n = All-from_recursion (λ place. place < n) (range_with_len 0 n) (range_below n 0 n (omega arith))

pub All-below : (n : ℕ) (places : List ℕ) → AreBelow n places → All (λ place. place < n) places
All-below n places below = All-from_recursion (λ place. place < n) places below

-- ---- few members

pub small-first : (index : List IndexValue) (first : IndexValue) (later : List IndexValue) → index ≡ first ∷ later → All HasFewMembers index → HasFewMembers first
small-first index first later e all = let few = rw e at all in few 0 first (omega arith)

pub small-later : (index : List IndexValue) (first : IndexValue) (later : List IndexValue) (k : ℕ) (bracket : IndexValue) → index ≡ first ∷ later → All HasFewMembers index → k < length later → bracket ≡ get_or later k bracket → HasFewMembers bracket
small-later index first later k bracket e all lt is = let few = rw e at all in subst HasFewMembers (sym is) (few (suc k) bracket (omega arith))
