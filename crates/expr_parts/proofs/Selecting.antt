-- What brackets select lies in the register, and a single position is one.
use Rattle.std.proofs.Common.{◌≡◌, ℕ, zero, suc, ◌+◌, ◌<◌, ◌≤◌, nat_lt, Bool, true, false, if◌then◌else◌, List, [], ◌∷◌, length, map, ℤ, pos, negsuc, Option, Some, None, Result, Ok, Err, refl, ap, subst, ◌∙◌, arith, slice_get, unwrap_or}
use Rattle.std.specs.List.{range_with_len, cons_option}
use Rattle.std.specs.Ordering.{int_eq}
use Rattle.std.proofs.lemmas.Bool.{ltb-true}
use Rattle.alias_resolve.specs.declared.index.IndexValue.{IndexValue}
use Rattle.alias_resolve.specs.declared.index.IndexValue.TheVariants.{At, Range, Set}
use Rattle.alias_resolve.specs.declared.select.SelectFault.{SelectFault}
use Rattle.alias_resolve.specs.declared.select.SelectFault.TheVariants.{IndexRange, StepZero, NotRegister}
use Rattle.alias_resolve.specs.Numbers.{from_start, range_of, place_of}
use Rattle.alias_resolve.specs.Places.{Selected, and_then, placed, places_in, places_of_range, single_of, register_of, selected_by, items_at, narrowed, narrowed_by, positions_of}

abbrev pub AllBelow : ℕ → List ℕ → Type 0
AllBelow n [] = Unit {0}
AllBelow n (p ∷ ps) = (p < n) × AllBelow n ps

abbrev pub IsSelection : ℕ → Selected ℕ → Type 0
IsSelection n s = AllBelow n s.items × (s.single ≡ true → length s.items ≡ 1)

abbrev selects : {A : Type 0} → A → Result A SelectFault
selects a = Ok a

selects_is : {A : Type 0} {x y : A} → selects x ≡ selects y → x ≡ y
selects_is e = cc

and_then_ok : {A B : Type 0} (r : Result A SelectFault) (f : A → Result B SelectFault) (b : B) → and_then r f ≡ Ok b → (a : A) × (r ≡ Ok a) × (f a ≡ Ok b)
and_then_ok (Ok a) f b e = (a, refl, e)
and_then_ok (Err fault) f b e = absurd cc

place_below : (n : ℕ) (z : ℤ) (p : ℕ) → place_of n z ≡ Some p → p < n
place_below n (pos q) p e = by (nat_lt q n) refl e
  where
    by : (b : Bool) → nat_lt q n ≡ b → (if b then Some q else None) ≡ Some p → p < n
    by true test e = let same : q ≡ p = cc in let h = ltb-true q n test in omega arith
    by false test e = absurd cc
place_below n (negsuc q) p e = absurd cc

placed_below : (fault : SelectFault) (n : ℕ) (o : Option ℕ) (p : ℕ) → ((q : ℕ) → o ≡ Some q → q < n) → placed fault o ≡ Ok p → p < n
placed_below fault n None p h e = absurd cc
placed_below fault n (Some q) p h e = h p (ap Some (selects_is e))

places_below : (fault_at : ℕ → SelectFault) (n before : ℕ) (numbers : List ℤ) (ps : List ℕ) → places_in fault_at n before numbers ≡ Ok ps → AllBelow n ps
places_below fault_at n before [] ps e = subst (AllBelow n) (selects_is e) tt
places_below fault_at n before (z ∷ numbers) ps e =
    let (p, ep, e1) = and_then_ok (placed (fault_at before) (place_of n z)) (λ place. and_then (places_in fault_at n (suc before) numbers) (λ places. Ok (place ∷ places))) ps e in
    let (later, el, e2) = and_then_ok (places_in fault_at n (suc before) numbers) (λ places. Ok (p ∷ places)) ps e1 in
    subst (AllBelow n) (selects_is e2) (placed_below (fault_at before) n (place_of n z) p (λ q eq. place_below n z q eq) ep, places_below fault_at n (suc before) numbers later el)

range_below : (index n : ℕ) (start : Option ℤ) (step : ℤ) (stop : Option ℤ) (ps : List ℕ) → places_of_range index n start step stop ≡ Ok ps → AllBelow n ps
range_below index n start step stop ps e = by (int_eq step (pos 0)) e
  where
    by : (b : Bool) → (if b then Err (StepZero index) else places_in (λ _. IndexRange index 0) n 0 (range_of n start step stop)) ≡ Ok ps → AllBelow n ps
    by true e = absurd cc
    by false e = places_below (λ _. IndexRange index 0) n 0 (range_of n start step stop) ps e

selected_below : (index n : ℕ) (b : IndexValue) (s : Selected ℕ) → selected_by index n b ≡ Ok s → IsSelection n s
selected_below index n (At position) s e =
    let (p, ep, e1) = and_then_ok (placed (IndexRange index 0) (place_of n (from_start n position))) (λ place. Ok (single_of place)) s e in
    subst (IsSelection n) (selects_is e1) ((placed_below (IndexRange index 0) n (place_of n (from_start n position)) p (λ q eq. place_below n (from_start n position) q eq) ep, tt), λ yes. refl)
selected_below index n (Range start step stop) s e =
    let (ps, ep, e1) = and_then_ok (places_of_range index n start (unwrap_or step (pos 1)) stop) (λ places. Ok (register_of places)) s e in
    subst (IsSelection n) (selects_is e1) (range_below index n start (unwrap_or step (pos 1)) stop ps ep, λ yes. absurd cc)
selected_below index n (Set members) s e =
    let (ps, ep, e1) = and_then_ok (places_in (λ member. IndexRange index member) n 0 (map (from_start n) members)) (λ places. Ok (register_of places)) s e in
    subst (IsSelection n) (selects_is e1) (places_below (λ member. IndexRange index member) n 0 (map (from_start n) members) ps ep, λ yes. absurd cc)

-- ---- items at places

get_below : (n : ℕ) (items : List ℕ) (k x : ℕ) → AllBelow n items → slice_get items k ≡ Some x → x < n
get_below n [] k x h e = absurd cc
get_below n (y ∷ items) zero x h e = let same : y ≡ x = cc in omega (arith, h.0)
get_below n (y ∷ items) (suc k) x h e = get_below n items k x h.1 e

items_below : (n : ℕ) (items ps : List ℕ) → AllBelow n items → AllBelow n (items_at items ps)
items_below n items [] h = tt
items_below n items (p ∷ ps) h = by (slice_get items p) refl (items_below n items ps h)
  where
    by : (o : Option ℕ) → slice_get items p ≡ o → AllBelow n (items_at items ps) → AllBelow n (cons_option o (items_at items ps))
    by None e later = later
    by (Some x) e later = (get_below n items p x h e, later)

get_there : {A : Type 0} (items : List A) (k : ℕ) → k < length items → (x : A) × (slice_get items k ≡ Some x)
get_there [] k h = absurd (omega arith)
get_there (x ∷ items) zero h = (x, refl)
get_there (x ∷ items) (suc k) h = let less : k < length items = omega arith in get_there items k less

pub items_count : {A : Type 0} (items : List A) (ps : List ℕ) → AllBelow (length items) ps → length (items_at items ps) ≡ length ps
items_count items [] h = refl
items_count items (p ∷ ps) h =
    let (x, e) = get_there items p h.0 in
    ap (λ o. length (cons_option o (items_at items ps))) e ∙ ap suc (items_count items ps h.1)

-- ---- brackets one after another

narrowed_below : (n index : ℕ) (s : Selected ℕ) (b : IndexValue) (r : Selected ℕ) → IsSelection n s → narrowed index s b ≡ Ok r → IsSelection n r
narrowed_below n index s b r h e = by s.single e
  where
    by : (c : Bool) → (if c then Err (NotRegister index) else and_then (selected_by index (length s.items) b) (λ inner. Ok (record { items = items_at s.items inner.items; single = inner.single }))) ≡ Ok r → IsSelection n r
    by true e = absurd cc
    by false e =
        let (inner, ei, e1) = and_then_ok (selected_by index (length s.items) b) (λ inner. selects (record { items = items_at s.items inner.items; single = inner.single })) r e in
        let good = selected_below index (length s.items) b inner ei in
        subst (IsSelection n) (selects_is e1) (items_below n s.items inner.items h.0, λ yes. items_count s.items inner.items good.0 ∙ good.1 yes)

narrowed_by_below : (n index : ℕ) (s : Selected ℕ) (values : List IndexValue) (r : Selected ℕ) → IsSelection n s → narrowed_by index s values ≡ Ok r → IsSelection n r
narrowed_by_below n index s [] r h e = subst (IsSelection n) (selects_is e) h
narrowed_by_below n index s (b ∷ later) r h e =
    let (t, et, e1) = and_then_ok (narrowed index s b) (λ s. narrowed_by (suc index) s later) r e in
    narrowed_by_below n (suc index) t later r (narrowed_below n index s b t h et) e1

all_below : (n k m : ℕ) → k + m ≤ n → AllBelow n (range_with_len k m)
all_below n k zero h = tt
all_below n k (suc m) h = (omega arith, all_below n (k + 1) m (omega arith))

pub positions_below : (n : ℕ) (values : List IndexValue) (s : Selected ℕ) → positions_of n values ≡ Ok s → IsSelection n s
positions_below n values s e = narrowed_by_below n 0 (register_of (range_with_len 0 n)) values s (all_below n 0 n (omega arith), λ yes. absurd cc) e
