-- What index brackets select of a register.
use Rattle.std.specs.Prelude.{◌≡◌, ◌≢◌, ℕ, suc, ◌<◌, ◌^◌, Bool, true, false, List, [], ◌∷◌, map, length, All, ℤ, pos, Option, None, Some, unwrap_or, Result, Ok, Err, if◌then◌else◌, slice_get, filter_map}
use Rattle.std.specs.List.{range_with_len}
use Rattle.std.specs.Ordering.{int_eq}
use Rattle.alias_resolve.specs.declared.index.IndexValue.{IndexValue}
use Rattle.alias_resolve.specs.declared.index.IndexValue.TheVariants.{At, Range, Set}
use Rattle.alias_resolve.specs.declared.select.SelectFault.{SelectFault}
use Rattle.alias_resolve.specs.declared.select.SelectFault.TheVariants.{IndexRange, StepZero, NotRegister}
use Rattle.alias_resolve.specs.Numbers.{from_start, range_of, place_of}

-- what is selected, in order, and whether it is a single position and no register
pub record Selected (A : Type 0) : Type 0 where
  pub items : List A
  pub single : Bool

-- an answer, and what is made of it where it is no fault
abbrev pub and_then : {A B : Type 0} → Result A SelectFault → (A → Result B SelectFault) → Result B SelectFault
and_then (Ok x) f = f x
and_then (Err fault) f = Err fault

-- ---- one bracket

-- the place of a number, if it is one, and else the fault
abbrev pub placed : SelectFault → Option ℕ → Result ℕ SelectFault
placed fault None = Err fault
placed fault (Some place) = Ok place

-- the places of numbers in a register of n, or the fault of the first number that is no place: `fault_at` of how many
-- numbers stand before it
abbrev pub places_in : (ℕ → SelectFault) → ℕ → ℕ → List ℤ → Result (List ℕ) SelectFault
places_in fault_at n before [] = Ok []
places_in fault_at n before (number ∷ numbers) =
    and_then (placed (fault_at before) (place_of n number)) (λ place.
    and_then (places_in fault_at n (suc before) numbers) (λ places.
    Ok (place ∷ places)))

-- the places of a written range in a register of n, in the bracket at `index`
abbrev pub places_of_range : ℕ → ℕ → Option ℤ → ℤ → Option ℤ → Result (List ℕ) SelectFault
places_of_range index n start step stop =
    if int_eq step (pos 0) then Err (StepZero index) else places_in (λ _. IndexRange index 0) n 0 (range_of n start step stop)

-- no place stands twice among those of one range
abbrev pub RangePlacesDiffer : Type 0
RangePlacesDiffer = (index n : ℕ) (start : Option ℤ) (step : ℤ) (stop : Option ℤ) (places : List ℕ) → places_of_range index n start step stop ≡ Ok places
    → (i j : ℕ) → i < j → j < length places → slice_get places i ≢ slice_get places j

-- a position alone, and a register
abbrev pub single_of : ℕ → Selected ℕ
single_of place = record { items = place ∷ []; single = true }

abbrev pub register_of : List ℕ → Selected ℕ
register_of places = record { items = places; single = false }

-- what the bracket at `index` selects of a register of n
abbrev pub selected_by : ℕ → ℕ → IndexValue → Result (Selected ℕ) SelectFault
selected_by index n (At position) =
    and_then (placed (IndexRange index 0) (place_of n (from_start n position))) (λ place. Ok (single_of place))
selected_by index n (Range start step stop) =
    and_then (places_of_range index n start (unwrap_or step (pos 1)) stop) (λ places. Ok (register_of places))
selected_by index n (Set members) =
    and_then (places_in (λ member. IndexRange index member) n 0 (map (from_start n) members)) (λ places. Ok (register_of places))

-- ---- brackets one after another

-- the items that stand at the places
abbrev pub items_at : {A : Type 0} → List A → List ℕ → List A
items_at items places = filter_map (slice_get items) places

-- what the bracket at `index` leaves of what was selected: it needs a register, and counts in it
abbrev pub narrowed : ℕ → Selected ℕ → IndexValue → Result (Selected ℕ) SelectFault
narrowed index selected bracket =
    if selected.single then Err (NotRegister index)
    else and_then (selected_by index (length selected.items) bracket) (λ inner.
    Ok (record { items = items_at selected.items inner.items; single = inner.single }))

-- what the brackets from the one at `index` on leave of what was selected
abbrev pub narrowed_by : ℕ → Selected ℕ → List IndexValue → Result (Selected ℕ) SelectFault
narrowed_by index selected [] = Ok selected
narrowed_by index selected (bracket ∷ later) = and_then (narrowed index selected bracket) (λ s. narrowed_by (suc index) s later)

-- the places that brackets select of a register of n, or the first fault: the brackets count in what those before
-- them have left of all its places
abbrev pub positions_of : ℕ → List IndexValue → Result (Selected ℕ) SelectFault
positions_of n brackets = narrowed_by 0 (register_of (range_with_len 0 n)) brackets

-- the items of a register that brackets select
abbrev pub selected_of : {A : Type 0} → List A → List IndexValue → Result (Selected A) SelectFault
selected_of register brackets =
    and_then (positions_of (length register) brackets) (λ places. Ok (record { items = items_at register places.items; single = places.single }))

-- ---- sizes

-- a set has fewer than 2^32 members
abbrev pub HasFewMembers : IndexValue → Type 0
HasFewMembers (At position) = Unit {0}
HasFewMembers (Range start step stop) = Unit {0}
HasFewMembers (Set members) = length members < 2 ^ 32

-- there are fewer than 2^32 brackets, each with fewer than 2^32 members
pub record AreFew (brackets : List IndexValue) : Type 0 where
  pub few : length brackets < 2 ^ 32
  pub small : All HasFewMembers brackets
