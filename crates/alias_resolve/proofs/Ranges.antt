-- The numbers of a range, one by one.
use Rattle.std.proofs.Common.{◌≡◌, ◌≢◌, ℕ, zero, suc, ◌+◌, ◌-◌, ◌<◌, ◌≤◌, ◌^◌, Bool, true, false, List, [], ◌∷◌, length, ℤ, pos, negsuc, ◌+ℤ◌, ◌-ℤ◌, ◌<ℤ◌, ◌≤ℤ◌, Some, Ok, refl, ap, arith, cond, if◌then◌else◌, int_lt, unsigned_abs, FitsSigned}
use Rattle.std.proofs.lemmas.Int.{ints, by_lt_z}
use Rattle.std.specs.Int.{w128}
use Rattle.alias_resolve.specs.declared.select.SelectFault.{SelectFault}
use Rattle.alias_resolve.specs.Numbers.{has_passed, counted, numbers_from, place_of}
use Rattle.alias_resolve.specs.Places.{places_in}
use Rattle.alias_resolve.proofs.Answers.{place_of-Some, places_in-Ok}

pub int_lt-true : (a b : ℤ) → int_lt a b ≡ true → a <ℤ b
int_lt-true a b e = by_lt_z a b (λ lt. lt) (λ le. absurd (let no : int_lt a b ≡ false = grind (arith, ints) in cc))

pub int_lt-false : (a b : ℤ) → int_lt a b ≡ false → b ≤ℤ a
int_lt-false a b e = by_lt_z a b (λ lt. absurd (let yes : int_lt a b ≡ true = grind (arith, ints) in cc)) (λ le. le)

-- a number that is not passed, with the step that leads on
pub record Goes (step stop number : ℤ) : Type 0 where
  pub down : step <ℤ pos 0 → stop ≤ℤ number
  pub up : pos 0 ≤ℤ step → number ≤ℤ stop

pub Goes-from_test : (step stop number : ℤ) → has_passed step stop number ≡ false → Goes step stop number
Goes-from_test step stop number e = by (int_lt step (pos 0)) refl e
  where
    by : (b : Bool) → int_lt step (pos 0) ≡ b → cond b (int_lt number stop) (int_lt stop number) ≡ false → Goes step stop number
    by true s e = let neg : step <ℤ pos 0 = int_lt-true step (pos 0) s in let there : stop ≤ℤ number = int_lt-false number stop e in record { down = λ _. there; up = λ up. absurd (omega (arith, ints)) }
    by false s e = let up : pos 0 ≤ℤ step = int_lt-false step (pos 0) s in let there : number ≤ℤ stop = int_lt-false stop number e in record { down = λ neg. absurd (omega (arith, ints)); up = λ _. there }

-- the distance to the stop falls
pub distance-falls : (step stop number : ℤ) → step ≢ pos 0 → Goes step stop number → Goes step stop (number +ℤ step) → unsigned_abs (stop -ℤ (number +ℤ step)) < unsigned_abs (stop -ℤ number)
distance-falls step stop number ne here next =
    by_lt_z step (pos 0)
    (λ neg. let a : stop ≤ℤ number = here.down neg in let b : stop ≤ℤ (number +ℤ step) = next.down neg in omega (arith, ints))
    (λ up. let a : number ≤ℤ stop = here.up up in let b : (number +ℤ step) ≤ℤ stop = next.up up in omega (arith, ints))

-- more numbers than the distance are as good as any
counted-enough : (m k : ℕ) (step stop number : ℤ) → step ≢ pos 0 → (has_passed step stop number ≡ false → unsigned_abs (stop -ℤ number) < m) → (has_passed step stop number ≡ false → unsigned_abs (stop -ℤ number) < k) → counted m step stop number ≡ counted k step stop number
counted-enough zero zero step stop number ne a b = refl
counted-enough zero (suc k) step stop number ne a b = by (has_passed step stop number) refl
  where
    by : (p : Bool) → has_passed step stop number ≡ p → [] ≡ cond p [] (number ∷ counted k step stop (number +ℤ step))
    by true e = refl
    by false e = absurd (let lt : unsigned_abs (stop -ℤ number) < 0 = a e in omega arith)
counted-enough (suc m) zero step stop number ne a b = by (has_passed step stop number) refl
  where
    by : (p : Bool) → has_passed step stop number ≡ p → cond p [] (number ∷ counted m step stop (number +ℤ step)) ≡ []
    by true e = refl
    by false e = absurd (let lt : unsigned_abs (stop -ℤ number) < 0 = b e in omega arith)
counted-enough (suc m) (suc k) step stop number ne a b =
    by (has_passed step stop number) refl (λ e next. counted-enough m k step stop (number +ℤ step) ne (λ f. next f m (a e)) (λ f. next f k (b e)))
  where
    by : (p : Bool) → has_passed step stop number ≡ p
        → (has_passed step stop number ≡ false → (has_passed step stop (number +ℤ step) ≡ false → (j : ℕ) → unsigned_abs (stop -ℤ number) < suc j → unsigned_abs (stop -ℤ (number +ℤ step)) < j) → counted m step stop (number +ℤ step) ≡ counted k step stop (number +ℤ step))
        → cond p [] (number ∷ counted m step stop (number +ℤ step)) ≡ cond p [] (number ∷ counted k step stop (number +ℤ step))
    by true e rest = refl
    by false e rest =
        ap (λ l. number ∷ l)
        (rest e (λ f j lt. let falls = distance-falls step stop number ne (Goes-from_test step stop number e) (Goes-from_test step stop (number +ℤ step) f) in omega (arith, falls)))

-- a range is its first number and the range behind it
pub numbers_from-goes : (start step stop : ℤ) → step ≢ pos 0 → has_passed step stop start ≡ false → numbers_from start step stop ≡ start ∷ numbers_from (start +ℤ step) step stop
numbers_from-goes start step stop ne e =
    rw (add-suc_of (unsigned_abs (stop -ℤ start)), e)
    (ap (λ l. start ∷ l)
    (counted-enough (unsigned_abs (stop -ℤ start)) (unsigned_abs (stop -ℤ (start +ℤ step)) + 1) step stop (start +ℤ step) ne
    (λ f. distance-falls step stop start ne (Goes-from_test step stop start e) (Goes-from_test step stop (start +ℤ step) f))
    (λ f. omega arith)))
  where
    add-suc_of : (d : ℕ) → d + 1 ≡ suc d
    add-suc_of d = omega arith

-- and nothing once the stop is passed
pub numbers_from-passed : (start step stop : ℤ) → has_passed step stop start ≡ true → numbers_from start step stop ≡ []
numbers_from-passed start step stop e = by (unsigned_abs (stop -ℤ start) + 1)
  where
    by : (most : ℕ) → counted most step stop start ≡ []
    by zero = refl
    by (suc most) = rw e refl

-- both, as one equation
pub numbers_from-cases : (start step stop : ℤ) → step ≢ pos 0 → numbers_from start step stop ≡ (if has_passed step stop start then [] else start ∷ numbers_from (start +ℤ step) step stop)
numbers_from-cases start step stop ne = by (has_passed step stop start) refl
  where
    by : (p : Bool) → has_passed step stop start ≡ p → numbers_from start step stop ≡ cond p [] (start ∷ numbers_from (start +ℤ step) step stop)
    by true e = numbers_from-passed start step stop e
    by false e = numbers_from-goes start step stop ne e

-- a number past the largest i128 lies behind every stop
pub has_passed-beyond : (n place : ℕ) (step stop number : ℤ) → place_of n number ≡ Some place → n < 2 ^ 32 → FitsSigned w128 step → FitsSigned w128 stop → (FitsSigned w128 (number +ℤ step) → ⊥) → has_passed step stop (number +ℤ step) ≡ true
has_passed-beyond n place step stop number e small fits there beyond =
    let at = place_of-Some n number place e in
    by (int_lt step (pos 0)) refl at.0 at.1
  where
    by : (b : Bool) → int_lt step (pos 0) ≡ b → number ≡ pos place → place < n → cond b (int_lt (number +ℤ step) stop) (int_lt stop (number +ℤ step)) ≡ true
    by true s at lt = let neg : step <ℤ pos 0 = int_lt-true step (pos 0) s in absurd (beyond (omega (arith, ints)))
    by false s at lt = let up : pos 0 ≤ℤ step = int_lt-false step (pos 0) s in by_lt_z stop (number +ℤ step) (λ lt. grind (arith, ints)) (λ le. absurd (beyond (omega (arith, ints))))

-- how many places are left in the direction of the step
abbrev pub room : ℕ → ℤ → ℤ → ℕ
room n (pos _) (pos a) = n - a
room n (pos _) (negsuc _) = n
room n (negsuc _) (pos a) = a + 1
room n (negsuc _) (negsuc _) = 0

pub room-falls : (n place : ℕ) (step number : ℤ) → step ≢ pos 0 → place_of n number ≡ Some place → room n step (number +ℤ step) < room n step number
room-falls n place step number ne e = by step number ne (place_of-Some n number place e).0 (place_of-Some n number place e).1
  where
    low : (s a : ℕ) (z : ℤ) → z ≡ pos a +ℤ negsuc s → room n (negsuc s) z < a + 1
    low s a (pos k) e = omega (arith, ints)
    low s a (negsuc k) e = omega arith

    by : (step number : ℤ) → step ≢ pos 0 → number ≡ pos place → place < n → room n step (number +ℤ step) < room n step number
    by (pos zero) number ne at lt = absurd (ne refl)
    by (pos (suc s)) (pos a) ne at lt = let same : a ≡ place = cc in omega arith
    by (pos (suc s)) (negsuc a) ne at lt = absurd cc
    by (negsuc s) (pos a) ne at lt = low s a (pos a +ℤ negsuc s) refl
    by (negsuc s) (negsuc a) ne at lt = absurd cc

room-within : (n place : ℕ) (step number : ℤ) → place_of n number ≡ Some place → room n step number ≤ n
room-within n place (pos s) (pos a) e = omega arith
room-within n place (pos s) (negsuc a) e = absurd cc
room-within n place (negsuc s) (pos a) e = let at = place_of-Some n (pos a) place e in let same : a ≡ place = cc at.0 in omega (arith, at.1)
room-within n place (negsuc s) (negsuc a) e = absurd cc

-- a range takes no more places than there are
pub length-counted : (fault_at : ℕ → SelectFault) (n before most : ℕ) (step stop number : ℤ) (places : List ℕ) → step ≢ pos 0 → places_in fault_at n before (counted most step stop number) ≡ Ok places
    → (length places ≤ room n step number) × (length places ≤ n)
length-counted fault_at n before zero step stop number places ne e = let none : [] ≡ places = cc in rw (← none) (omega arith, omega arith)
length-counted fault_at n before (suc most) step stop number places ne e = by (has_passed step stop number) e (λ ps f. length-counted fault_at n (suc before) most step stop (number +ℤ step) ps ne f)
  where
    by : (p : Bool) → places_in fault_at n before (cond p [] (number ∷ counted most step stop (number +ℤ step))) ≡ Ok places
        → ((ps : List ℕ) → places_in fault_at n (suc before) (counted most step stop (number +ℤ step)) ≡ Ok ps → (length ps ≤ room n step (number +ℤ step)) × (length ps ≤ n))
        → (length places ≤ room n step number) × (length places ≤ n)
    by true e rest = let none : [] ≡ places = cc in rw (← none) (omega arith, omega arith)
    by false e rest =
        let parts = places_in-Ok fault_at n before number (counted most step stop (number +ℤ step)) places e in
        let long = rest parts.later parts.are_places in
        let falls = room-falls n parts.place step number ne parts.is_place in
        let within = room-within n parts.place step number parts.is_place in
        rw parts.all (omega (arith, long.0, falls), omega (arith, long.0, falls, within))
