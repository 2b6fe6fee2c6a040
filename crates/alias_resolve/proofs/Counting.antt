-- How many numbers a range has, which stands where, and that its places differ.
use Rattle.std.proofs.Common.{◌≡◌, ◌≢◌, ℕ, zero, suc, ◌+◌, ◌/◌, ◌<◌, Bool, true, false, List, [], ◌∷◌, length, map, ℤ, pos, negsuc, ◌+ℤ◌, ◌-ℤ◌, ◌*ℤ◌, ◌<ℤ◌, ◌≤ℤ◌, Option, Some, None, Result, Ok, Err, ◌⊎◌, inl, inr, ⊎_elim, refl, sym, ◌∙◌, ap, arith, cond, if◌then◌else◌, int_lt, nat_lt, not, unsigned_abs, slice_get}
use Rattle.std.proofs.lemmas.Bool.Decides.{Decides-int_eq}
use Rattle.std.proofs.lemmas.Bool.{ltb-true}
use Rattle.std.proofs.lemmas.List.{length-map}
use Rattle.std.proofs.Math.Nat.{eq_of_mul-eq-mul_right, add-div_right, div-eq_of_lt}
use Rattle.std.proofs.lemmas.Int.{ints, by_lt_z}
use Rattle.std.specs.Option.{option_map}
use Rattle.std.specs.Ordering.{int_eq}
use Rattle.alias_resolve.specs.declared.select.SelectFault.{SelectFault}
use Rattle.alias_resolve.specs.declared.select.SelectFault.TheVariants.{IndexRange, StepZero}
use Rattle.alias_resolve.specs.Numbers.{has_passed, counted, numbers_from, how_many, place_of, end_or, range_of}
use Rattle.alias_resolve.specs.Places.{and_then, placed, places_in, places_of_range}
use Rattle.alias_resolve.proofs.Answers.{place_of-Some, places_in-Ok}
use Rattle.alias_resolve.proofs.Ranges.{Goes, Goes-from_test, int_lt-true, int_lt-false, distance-falls, numbers_from-goes, numbers_from-passed, length-counted}

-- ---- how many

-- the next number stands behind the stop, so it is not one more step to the stop
step-too_long : (start step stop : ℤ) → Goes step stop start → has_passed step stop (start +ℤ step) ≡ true → unsigned_abs (stop -ℤ start) < unsigned_abs step
step-too_long start step stop here e = by (int_lt step (pos 0)) refl e
  where
    by : (b : Bool) → int_lt step (pos 0) ≡ b → cond b (int_lt (start +ℤ step) stop) (int_lt stop (start +ℤ step)) ≡ true → unsigned_abs (stop -ℤ start) < unsigned_abs step
    by true s e = let neg : step <ℤ pos 0 = int_lt-true step (pos 0) s in let next : (start +ℤ step) <ℤ stop = int_lt-true (start +ℤ step) stop e in let at : stop ≤ℤ start = here.down neg in omega (arith, ints)
    by false s e = let up : pos 0 ≤ℤ step = int_lt-false step (pos 0) s in let next : stop <ℤ (start +ℤ step) = int_lt-true stop (start +ℤ step) e in let at : start ≤ℤ stop = here.up up in omega (arith, ints)

-- else it is
step-shortens : (start step stop : ℤ) → Goes step stop start → Goes step stop (start +ℤ step) → unsigned_abs (stop -ℤ start) ≡ unsigned_abs (stop -ℤ (start +ℤ step)) + unsigned_abs step
step-shortens start step stop here next =
    by_lt_z step (pos 0)
    (λ neg. let a : stop ≤ℤ start = here.down neg in let b : stop ≤ℤ (start +ℤ step) = next.down neg in omega (arith, ints))
    (λ up. let a : start ≤ℤ stop = here.up up in let b : (start +ℤ step) ≤ℤ stop = next.up up in omega (arith, ints))

some_size : (step : ℤ) → step ≢ pos 0 → 0 < unsigned_abs step
some_size (pos zero) ne = absurd (ne refl)
some_size (pos (suc s)) ne = omega arith
some_size (negsuc s) ne = omega arith

so_many_within : (most : ℕ) (start step stop : ℤ) → step ≢ pos 0 → unsigned_abs (stop -ℤ start) < most → length (numbers_from start step stop) ≡ how_many start step stop
so_many_within zero start step stop ne small = absurd (omega arith)
so_many_within (suc most) start step stop ne small = by (has_passed step stop start) refl (λ less. so_many_within most (start +ℤ step) step stop ne less)
  where
    rest : has_passed step stop start ≡ false → (q : Bool) → has_passed step stop (start +ℤ step) ≡ q → (unsigned_abs (stop -ℤ (start +ℤ step)) < most → length (numbers_from (start +ℤ step) step stop) ≡ how_many (start +ℤ step) step stop)
        → suc (length (numbers_from (start +ℤ step) step stop)) ≡ unsigned_abs (stop -ℤ start) / unsigned_abs step + 1
    rest e true f later =
        let short = step-too_long start step stop (Goes-from_test step stop start e) f in
        let none : unsigned_abs (stop -ℤ start) / unsigned_abs step ≡ 0 = div-eq_of_lt short in
        ap (λ (ns : List ℤ). suc (length ns)) (numbers_from-passed (start +ℤ step) step stop f) ∙ omega arith
    rest e false f later =
        let here = Goes-from_test step stop start e in
        let next = Goes-from_test step stop (start +ℤ step) f in
        let shorter = step-shortens start step stop here next in
        let falls = distance-falls step stop start ne here next in
        let one = ap (λ d. d / unsigned_abs step) shorter ∙ add-div_right (unsigned_abs (stop -ℤ (start +ℤ step))) (some_size step ne) in
        let so = later (omega arith) ∙ ap (λ (p : Bool). if p then 0 else unsigned_abs (stop -ℤ (start +ℤ step)) / unsigned_abs step + 1) f in
        omega arith

    by : (p : Bool) → has_passed step stop start ≡ p → (unsigned_abs (stop -ℤ (start +ℤ step)) < most → length (numbers_from (start +ℤ step) step stop) ≡ how_many (start +ℤ step) step stop)
        → length (numbers_from start step stop) ≡ (if p then 0 else unsigned_abs (stop -ℤ start) / unsigned_abs step + 1)
    by true e later = ap length (numbers_from-passed start step stop e)
    by false e later = ap length (numbers_from-goes start step stop ne e) ∙ rest e (has_passed step stop (start +ℤ step)) refl later

pub so_many : (start step stop : ℤ) → step ≢ pos 0 → length (numbers_from start step stop) ≡ how_many start step stop
so_many start step stop ne = so_many_within (suc (unsigned_abs (stop -ℤ start))) start step stop ne (omega arith)

-- ---- which stands where

one_more_step : (k : ℕ) (number step : ℤ) → (number +ℤ step) +ℤ pos k *ℤ step ≡ number +ℤ pos (suc k) *ℤ step
one_more_step k number (pos s) = omega (arith, ints)
one_more_step k number (negsuc s) = omega (arith, ints)

no_step : (number step : ℤ) → number ≡ number +ℤ pos 0 *ℤ step
no_step number (pos s) = omega (arith, ints)
no_step number (negsuc s) = omega (arith, ints)

each_counted : (most : ℕ) (step stop number : ℤ) (k : ℕ) → k < length (counted most step stop number) → slice_get (counted most step stop number) k ≡ Some (number +ℤ pos k *ℤ step)
each_counted zero step stop number k lt = absurd (omega arith)
each_counted (suc most) step stop number k lt = by (has_passed step stop number) k lt (each_counted most step stop (number +ℤ step))
  where
    by : (p : Bool) (k : ℕ) → k < length (if p then [] else number ∷ counted most step stop (number +ℤ step))
        → ((j : ℕ) → j < length (counted most step stop (number +ℤ step)) → slice_get (counted most step stop (number +ℤ step)) j ≡ Some ((number +ℤ step) +ℤ pos j *ℤ step))
        → slice_get (if p then [] else number ∷ counted most step stop (number +ℤ step)) k ≡ Some (number +ℤ pos k *ℤ step)
    by true k lt rest = absurd (omega arith)
    by false zero lt rest = ap Some (no_step number step)
    by false (suc k) lt rest = rest k (omega arith) ∙ ap Some (one_more_step k number step)

pub each : (start step stop : ℤ) (k : ℕ) → step ≢ pos 0 → k < length (numbers_from start step stop) → slice_get (numbers_from start step stop) k ≡ Some (start +ℤ pos k *ℤ step)
each start step stop k ne lt = each_counted (unsigned_abs (stop -ℤ start) + 1) step stop start k lt

-- ---- places

-- the places stand for the numbers
numbers_are : (fault_at : ℕ → SelectFault) (n before : ℕ) (numbers : List ℤ) (places : List ℕ) → places_in fault_at n before numbers ≡ Ok places → map pos places ≡ numbers
numbers_are fault_at n before [] places e = let none : [] ≡ places = cc in ap (λ (ps : List ℕ). map pos ps) (sym none)
numbers_are fault_at n before (number ∷ numbers) places e =
    let parts = places_in-Ok fault_at n before number numbers places e in
    let first : pos parts.place ≡ number = sym (place_of-Some n number parts.place parts.is_place).0 in
    let later = numbers_are fault_at n (suc before) numbers parts.later parts.are_places in
    rw parts.all (λ i. first i ∷ later i)

slice_get-map : {A B : Type 0} (f : A → B) (xs : List A) (k : ℕ) → slice_get (map f xs) k ≡ option_map f (slice_get xs k)
slice_get-map f [] k = refl
slice_get-map f (x ∷ xs) zero = refl
slice_get-map f (x ∷ xs) (suc k) = slice_get-map f xs k

steps_differ : (start step : ℤ) (i j : ℕ) → step ≢ pos 0 → (start +ℤ pos i *ℤ step) ≡ (start +ℤ pos j *ℤ step) → i ≡ j
steps_differ start (pos zero) i j ne e = absurd (ne refl)
steps_differ start (pos (suc s)) i j ne e = eq_of_mul-eq-mul_right (suc s) (omega arith) i j (omega (arith, ints))
steps_differ start (negsuc s) i j ne e = eq_of_mul-eq-mul_right (suc s) (omega arith) i j (omega (arith, ints))

some_is : {x y : ℤ} → Some x ≡ Some y → x ≡ y
some_is e = cc

pub differ : (index n : ℕ) (start : Option ℤ) (step : ℤ) (stop : Option ℤ) (places : List ℕ) → places_of_range index n start step stop ≡ Ok places
    → (i j : ℕ) → i < j → j < length places → slice_get places i ≢ slice_get places j
differ index n start step stop places e i j before within same = by (int_eq step (pos 0)) refl e
  where
    by : (b : Bool) → int_eq step (pos 0) ≡ b → (if b then Err (StepZero index) else places_in (λ _. IndexRange index 0) n 0 (range_of n start step stop)) ≡ Ok places → ⊥
    by true test e = absurd cc
    by false test e =
        let numbers = range_of n start step stop in
        let are = numbers_are (λ _. IndexRange index 0) n 0 numbers places e in
        let long : length places ≡ length numbers = sym (length-map places pos) ∙ ap length are in
        let ne : step ≢ pos 0 = λ zero_step. let yes : int_eq step (pos 0) ≡ true = (Decides-int_eq step (pos 0)).1 zero_step in absurd cc in
        let first = end_or n (int_lt step (pos 0)) start in
        let last = end_or n (not (int_lt step (pos 0))) stop in
        let stands = λ (k : ℕ) (lt : k < length numbers). sym (each first step last k ne lt) ∙ ap (λ (ns : List ℤ). slice_get ns k) (sym are) ∙ slice_get-map pos places k in
        let both = stands i (omega arith) ∙ ap (option_map pos) same ∙ sym (stands j (omega arith)) in
        let equal = steps_differ first step i j ne (some_is both) in
        omega arith

-- ---- a range that is longer than its register

-- where all faults are one, the answer is that, or the places of all numbers
one_fault : (fault : SelectFault) (n before : ℕ) (numbers : List ℤ)
    → ((places : List ℕ) × (places_in (λ _. fault) n before numbers ≡ Ok places) × (length places ≡ length numbers)) ⊎ (places_in (λ _. fault) n before numbers ≡ Err fault)
one_fault fault n before [] = inl ([], refl, refl)
one_fault fault n before (number ∷ numbers) = by (place_of n number) (one_fault fault n (suc before) numbers)
  where
    by : (o : Option ℕ)
        → ((places : List ℕ) × (places_in (λ _. fault) n (suc before) numbers ≡ Ok places) × (length places ≡ length numbers)) ⊎ (places_in (λ _. fault) n (suc before) numbers ≡ Err fault)
        → ((places : List ℕ) × (and_then (placed fault o) (λ place. and_then (places_in (λ _. fault) n (suc before) numbers) (λ places. Ok (place ∷ places))) ≡ Ok places) × (length places ≡ suc (length numbers)))
        ⊎ (and_then (placed fault o) (λ place. and_then (places_in (λ _. fault) n (suc before) numbers) (λ places. Ok (place ∷ places))) ≡ Err fault)
    by None later = inr refl
    by (Some place) (inl (places, e, long)) = inl (place ∷ places, ap (λ (r : Result (List ℕ) SelectFault). and_then r (λ places. Ok (place ∷ places))) e, ap suc long)
    by (Some place) (inr e) = inr (ap (λ (r : Result (List ℕ) SelectFault). and_then r (λ places. Ok (place ∷ places))) e)

pub longer_is_refused : (fault : SelectFault) (n : ℕ) (start step stop : ℤ) → step ≢ pos 0 → nat_lt n (how_many start step stop) ≡ true → places_in (λ _. fault) n 0 (numbers_from start step stop) ≡ Err fault
longer_is_refused fault n start step stop ne more =
    ⊎_elim
    (λ (places, e, long).
    let few = (length-counted (λ _. fault) n 0 (unsigned_abs (stop -ℤ start) + 1) step stop start places ne e).1 in
    let many = so_many start step stop ne in
    absurd (omega (arith, ltb-true n (how_many start step stop) more)))
    (λ e. e)
    (one_fault fault n 0 (numbers_from start step stop))
