-- The numbers of a range, on whole numbers without bound, and the places of a register that numbers stand for.
--
-- Ranges and negative positions are those of OpenQASM 3.0
-- (https://openqasm.com/versions/3.0/language/types.html#register-concatenation-and-slicing): both ends of a range
-- belong to it, and a negative position counts from the end of the register. That a missing start and stop are
-- exchanged for a negative step is this project's own.
use Rattle.std.specs.Prelude.{◌≡◌, ◌≢◌, ℕ, zero, suc, ◌+◌, ◌/◌, ◌<◌, Bool, List, [], ◌∷◌, length, slice_get, ℤ, pos, negsuc, ◌+ℤ◌, ◌-ℤ◌, ◌*ℤ◌, Option, None, Some, if◌then◌else◌, int_lt, nat_lt, not, unsigned_abs, unwrap_or}

-- whether a range has ended before this number: going by the step, the number lies behind the stop
abbrev pub has_passed : ℤ → ℤ → ℤ → Bool
has_passed step stop number = if int_lt step (pos 0) then int_lt number stop else int_lt stop number

-- the numbers from this one on, by the step, until the stop is passed, and at most so many
abbrev pub counted : ℕ → ℤ → ℤ → ℤ → List ℤ
counted zero step stop number = []
counted (suc most) step stop number = if has_passed step stop number then [] else number ∷ counted most step stop (number +ℤ step)

-- the numbers of a range: start, start + step and so on, while the stop is not passed. A step is no 0, so there are
-- at most as many as there are whole numbers between the ends
abbrev pub numbers_from : ℤ → ℤ → ℤ → List ℤ
numbers_from start step stop = counted (unsigned_abs (stop -ℤ start) + 1) step stop start

-- what a range is, number by number: nothing once the stop is passed, and else its start and the range behind it
abbrev pub RangesGoByTheirStep : Type 0
RangesGoByTheirStep = (start step stop : ℤ) → step ≢ pos 0 →
    numbers_from start step stop ≡ (if has_passed step stop start then [] else start ∷ numbers_from (start +ℤ step) step stop)

-- how many numbers a range has: none once the stop is passed, and else its start and one more for each whole step up to the stop
abbrev pub how_many : ℤ → ℤ → ℤ → ℕ
how_many start step stop = if has_passed step stop start then 0 else unsigned_abs (stop -ℤ start) / unsigned_abs step + 1

-- a range has so many numbers, and each is so many steps behind its start
pub record RangesCountBySteps : Type 0 where
  pub so_many : (start step stop : ℤ) → step ≢ pos 0 → length (numbers_from start step stop) ≡ how_many start step stop
  pub each : (start step stop : ℤ) (k : ℕ) → step ≢ pos 0 → k < length (numbers_from start step stop) → slice_get (numbers_from start step stop) k ≡ Some (start +ℤ pos k *ℤ step)

-- a written position, counted from the start of a register of n: a negative one counts from its end, so n is added once
abbrev pub from_start : ℕ → ℤ → ℤ
from_start n number = if int_lt number (pos 0) then number +ℤ pos n else number

-- an end of a range in a register of n, counted from its start: a missing one is the last position or the first
abbrev pub end_or : ℕ → Bool → Option ℤ → ℤ
end_or n is_last end = from_start n (unwrap_or end (if is_last then pos n -ℤ pos 1 else pos 0))

-- the numbers of a written range in a register of n: a missing start is the first position and a missing stop the
-- last, and for a negative step they are exchanged
abbrev pub range_of : ℕ → Option ℤ → ℤ → Option ℤ → List ℤ
range_of n start step stop = numbers_from (end_or n (int_lt step (pos 0)) start) step (end_or n (not (int_lt step (pos 0))) stop)

-- the place in a register of n that a number stands for, if it is one
abbrev pub place_of : ℕ → ℤ → Option ℕ
place_of n (pos place) = if nat_lt place n then Some place else None
place_of n (negsuc _) = None
