-- Signed numbers behind their bits.
use Rattle.std.proofs.Common.{◌≡◌, ◌≢◌, ℕ, List, ℤ, pos, Option, Result, ◌∙◌, refl, sym, ap, FitsSigned, to_z, of_z, int_lt, not, Bool, true, false}
use Rattle.std.specs.Bool.{Decides}
use Rattle.std.proofs.lemmas.Bool.Decides.{Decides-int_eq}
use Rattle.std.specs.Ordering.{int_eq}
use Rattle.std.specs.Int.{w128}
use Rattle.std.proofs.lemmas.Int.{to_z-of_z}
use Rattle.alias_resolve.specs.declared.select.SelectFault.{SelectFault}
use Rattle.alias_resolve.specs.declared.select.SelectFault.TheVariants.{IndexRange}
use Rattle.alias_resolve.specs.Numbers.{numbers_from, place_of, from_start, end_or}
use Rattle.alias_resolve.specs.Places.{places_in, places_of_range}

-- a number behind its own bits
abbrev pub through_bits : ℤ → ℤ
through_bits number = to_z w128 (of_z w128 number)

-- the places of a range
pub range_of_bits : (fault_at : ℕ → SelectFault) (n : ℕ) (start step stop : ℤ) (r : Result (List ℕ) SelectFault) → FitsSigned w128 start → FitsSigned w128 step → FitsSigned w128 stop
    → places_in fault_at n 0 (numbers_from (through_bits start) (through_bits step) (through_bits stop)) ≡ r → places_in fault_at n 0 (numbers_from start step stop) ≡ r
range_of_bits fault_at n start step stop r a b c h = rw (to_z-of_z w128 start a, to_z-of_z w128 step b, to_z-of_z w128 stop c) at h

-- a step that is no 0
pub step_of_bits : (step : ℤ) → FitsSigned w128 step → step ≢ pos 0 → through_bits step ≢ pos 0
step_of_bits step f ne = rw (to_z-of_z w128 step f) ne

pub fits_of_bits : (number : ℤ) → FitsSigned w128 number → FitsSigned w128 (through_bits number)
fits_of_bits number f = rw (to_z-of_z w128 number f) f

-- a sum that fits
pub sum_of_bits : (sum next : ℤ) → FitsSigned w128 sum → next ≡ sum → through_bits next ≡ sum
sum_of_bits sum next f e = to_z-of_z w128 next (rw e f) ∙ e

-- the place of a written position
pub place_of_member : (n : ℕ) (item number : ℤ) (r o : Option ℕ) → FitsSigned w128 item → FitsSigned w128 number
    → number ≡ from_start n (through_bits item) → r ≡ place_of n (through_bits number) → r ≡ o → place_of n (from_start n item) ≡ o
place_of_member n item number r o f g e h is =
    ap (place_of n) (ap (from_start n) (sym (to_z-of_z w128 item f)) ∙ sym e ∙ sym (to_z-of_z w128 number g)) ∙ (sym h ∙ is)

int_eq-false : (a b : ℤ) → a ≢ b → int_eq a b ≡ false
int_eq-false a b ne = by (int_eq a b) (Decides-int_eq a b)
  where
    by : (t : Bool) → Decides t (a ≡ b) → t ≡ false
    by true d = absurd (ne (d.0 refl))
    by false d = refl

-- a written range
pub written_of_bits : (index n : ℕ) (start : Option ℤ) (step : ℤ) (stop : Option ℤ) (a b : ℤ) → FitsSigned w128 a → FitsSigned w128 step → FitsSigned w128 b → (of_z w128 step ≡ 0 → ⊥)
    → a ≡ end_or n (int_lt (through_bits step) (pos 0)) start → b ≡ end_or n (not (int_lt (through_bits step) (pos 0))) stop
    → places_of_range index n start step stop ≡ places_in (λ _. IndexRange index 0) n 0 (numbers_from (through_bits a) (through_bits step) (through_bits b))
written_of_bits index n start step stop a b f g h ne e d =
    let no : int_eq step (pos 0) ≡ false = int_eq-false step (pos 0) (λ same. ne (ap (of_z w128) same)) in
    let there = rw (to_z-of_z w128 step g) at e in
    let behind_it = rw (to_z-of_z w128 step g) at d in
    rw (no, to_z-of_z w128 a f, to_z-of_z w128 step g, to_z-of_z w128 b h, there, behind_it) refl
