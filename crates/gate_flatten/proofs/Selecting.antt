-- What brackets select of a register is in the register, and a single position is one.
use Rattle.std.proofs.Common.{◌≡◌, ℕ, zero, suc, ◌+◌, ◌<◌, Bool, true, false, List, [], ◌∷◌, map, length, ℤ, pos, negsuc, Option, None, Some, Result, Ok, Err, refl, arith, cond}
use Rattle.std.specs.Prelude.{slice_get, unwrap_or, nat_lt}
use Rattle.std.specs.List.{range_with_len, cons_option, AllByRecursion}
use Rattle.std.specs.Ordering.{int_eq}
use Rattle.std.proofs.lemmas.Bool.{ltb-true}
use Rattle.alias_resolve.specs.declared.index.IndexValue.{IndexValue}
use Rattle.alias_resolve.specs.declared.index.IndexValue.TheVariants.{At, Range, Set}
use Rattle.alias_resolve.specs.declared.select.SelectFault.{SelectFault}
use Rattle.alias_resolve.specs.declared.select.SelectFault.TheVariants.{IndexRange, StepZero, NotRegister}
use Rattle.alias_resolve.specs.Numbers.{from_start, range_of, place_of}
use Rattle.alias_resolve.specs.Places.{Selected, and_then, placed, places_in, places_of_range, selected_by, items_at, narrowed, narrowed_by, positions_of, selected_of, register_of}

abbrev Below : ℕ → List ℕ → Type 0
Below n places = AllByRecursion (λ place. place < n) places

-- places in a register of n, and one where there is a single one
record Good (n : ℕ) (s : Selected ℕ) : Type 0 where
  below : Below n s.items
  one : s.single ≡ true → length s.items ≡ 1

then_ok : {A B : Type 0} (r : Result A SelectFault) (f : A → Result B SelectFault) (y : B) → and_then r f ≡ Ok y → (x : A) × (r ≡ Ok x) × (f x ≡ Ok y)
then_ok (Ok x) f y e = (x, refl, e)
then_ok (Err fault) f y e = absurd cc

placed_ok : (n place : ℕ) (number : ℤ) (fault : SelectFault) → placed fault (place_of n number) ≡ Ok place → place < n
placed_ok n place (pos m) fault e = of (nat_lt m n) refl e
  where
    of : (t : Bool) → nat_lt m n ≡ t → placed fault (cond t (Some m) None) ≡ Ok place → place < n
    of true q h = let same : m ≡ place = cc in let less = ltb-true m n q in rw (← same) less
    of false q h = absurd cc
placed_ok n place (negsuc m) fault e = absurd cc

all_placed : (fault_at : ℕ → SelectFault) (n before : ℕ) (numbers : List ℤ) (places : List ℕ) → places_in fault_at n before numbers ≡ Ok places → Below n places
all_placed fault_at n before [] places e = let none : [] ≡ places = cc in rw (← none) tt
all_placed fault_at n before (number ∷ numbers) places e =
    let first = then_ok (placed (fault_at before) (place_of n number)) _ places e in
    let later = then_ok (places_in fault_at n (suc before) numbers) _ places first.2 in
    let all : first.0 ∷ later.0 ≡ places = cc later.2 in
    rw (← all) (placed_ok n first.0 number (fault_at before) first.1, all_placed fault_at n (suc before) numbers later.0 later.1)

in_range : (index n : ℕ) (start : Option ℤ) (step : ℤ) (stop : Option ℤ) (places : List ℕ) → places_of_range index n start step stop ≡ Ok places → Below n places
in_range index n start step stop places e = of (int_eq step (pos 0)) e
  where
    of : (t : Bool) → cond t (Err (StepZero index)) (places_in (λ _. IndexRange index 0) n 0 (range_of n start step stop)) ≡ Ok places → Below n places
    of true h = absurd cc
    of false h = all_placed (λ _. IndexRange index 0) n 0 (range_of n start step stop) places h

-- what one bracket selects
good_bracket : (index n : ℕ) (bracket : IndexValue) (s : Selected ℕ) → selected_by index n bracket ≡ Ok s → Good n s
good_bracket index n (At position) s e =
    let one = then_ok (placed (IndexRange index 0) (place_of n (from_start n position))) _ s e in
    let less = placed_ok n one.0 (from_start n position) (IndexRange index 0) one.1 in
    let items : one.0 ∷ [] ≡ s.items = cc one.2 in
    record { below = rw (← items) (less, tt); one = λ h. rw (← items) refl }
good_bracket index n (Range start step stop) s e =
    let many = then_ok (places_of_range index n start (unwrap_or step (pos 1)) stop) _ s e in
    let items : many.0 ≡ s.items = cc many.2 in
    let is_register : false ≡ s.single = cc many.2 in
    record { below = rw (← items) (in_range index n start (unwrap_or step (pos 1)) stop many.0 many.1); one = λ h. absurd cc }
good_bracket index n (Set members) s e =
    let many = then_ok (places_in (λ member. IndexRange index member) n 0 (map (from_start n) members)) _ s e in
    let items : many.0 ≡ s.items = cc many.2 in
    let is_register : false ≡ s.single = cc many.2 in
    record { below = rw (← items) (all_placed (λ member. IndexRange index member) n 0 (map (from_start n) members) many.0 many.1); one = λ h. absurd cc }

-- an item at a place
item_below : (n : ℕ) (items : List ℕ) (place x : ℕ) → Below n items → slice_get items place ≡ Some x → x < n
item_below n [] place x all e = absurd cc
item_below n (y ∷ ys) zero x all e = let same : y ≡ x = cc in rw (← same) all.0
item_below n (y ∷ ys) (suc k) x all e = item_below n ys k x all.1 e

one_below : (n : ℕ) (items places : List ℕ) (place : ℕ) → Below n items → (o : Option ℕ) → slice_get items place ≡ o → Below n (items_at items places) → Below n (cons_option o (items_at items places))
one_below n items places place all None is later = later
one_below n items places place all (Some x) is later = (item_below n items place x all is, later)

items_below : (n : ℕ) (items places : List ℕ) → Below n items → Below n (items_at items places)
items_below n items [] all = tt
items_below n items (place ∷ places) all = one_below n items places place all (slice_get items place) refl (items_below n items places all)

there : {A : Type 0} (items : List A) (place : ℕ) → place < length items → (x : A) × (slice_get items place ≡ Some x)
there [] place lt = absurd (omega arith)
there (x ∷ xs) zero lt = (x, refl)
there (x ∷ xs) (suc k) lt = there xs k (omega arith)

-- one place in the list has one item
one_item : {A : Type 0} (items : List A) (places : List ℕ) → Below (length items) places → length places ≡ 1 → length (items_at items places) ≡ 1
one_item items [] all e = absurd (omega arith)
one_item items (place ∷ []) all e = let found = there items place all.0 in rw found.1 refl
one_item items (place ∷ (other ∷ places)) all e = absurd (omega arith)

good_narrowed : (n index : ℕ) (s out : Selected ℕ) (bracket : IndexValue) → Good n s → narrowed index s bracket ≡ Ok out → Good n out
good_narrowed n index s out bracket good e = of s.single e
  where
    of : (t : Bool) → cond t (Err (NotRegister index)) (and_then (selected_by index (length s.items) bracket) (λ inner. Ok (record { items = items_at s.items inner.items; single = inner.single }))) ≡ Ok out → Good n out
    of true h = absurd cc
    of false h =
        let inner = then_ok (selected_by index (length s.items) bracket) _ out h in
        let parts = good_bracket index (length s.items) bracket inner.0 inner.1 in
        let items : items_at s.items (inner.0).items ≡ out.items = cc inner.2 in
        let single : (inner.0).single ≡ out.single = cc inner.2 in
        record {
          below = rw (← items) (items_below n s.items (inner.0).items good.below);
          one = λ h. rw (← items) (one_item s.items (inner.0).items parts.below (parts.one (rw single h)));
        }

good_all : (n index : ℕ) (s out : Selected ℕ) (brackets : List IndexValue) → Good n s → narrowed_by index s brackets ≡ Ok out → Good n out
good_all n index s out [] good e = let same : s ≡ out = cc in rw (← same) good
good_all n index s out (bracket ∷ later) good e =
    let next = then_ok (narrowed index s bracket) _ out e in
    good_all n (suc index) next.0 out later (good_narrowed n index s next.0 bracket good next.1) next.2

all_below : (n from count : ℕ) → from + count ≡ n → Below n (range_with_len from count)
all_below n from zero e = tt
all_below n from (suc count) e = (omega arith, all_below n (from + 1) count (omega arith))

-- what brackets select as a single one is one
pub selected_one : {A : Type 0} (register : List A) (brackets : List IndexValue) (s : Selected A) → selected_of register brackets ≡ Ok s → s.single ≡ true → length s.items ≡ 1
selected_one register brackets s e single =
    let places = then_ok (positions_of (length register) brackets) _ s e in
    let start : Good (length register) (register_of (range_with_len 0 (length register))) = record { below = all_below (length register) 0 (length register) (omega arith); one = λ h. absurd cc } in
    let good = good_all (length register) 0 _ places.0 brackets start places.1 in
    let items : items_at register (places.0).items ≡ s.items = cc places.2 in
    let same : (places.0).single ≡ s.single = cc places.2 in
    rw (← items) (one_item register (places.0).items good.below (good.one (rw same single)))
