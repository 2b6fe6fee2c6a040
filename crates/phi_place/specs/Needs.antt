-- For private contracts only: which cells have a phi, at a join and at a loop's start.
use Rattle.std.specs.Prelude.{ℕ, Bool, List, Option, Some, None}
use Rattle.std.specs.List.Sorted.{IsStrictlyIncreasing}
use Rattle.phi_place.specs.State.{CellState}
use Rattle.phi_place.specs.Phis.{ways_differ, is_listed}

-- the listed cells, or where none are listed, those in which two ways differ
abbrev pub needs_of : Option (List ℕ) → List CellState → ℕ → Bool
needs_of None ways c = ways_differ ways c
needs_of (Some cells) ways c = is_listed cells c

abbrev pub RisesIf : Option (List ℕ) → Type 0
RisesIf None = Unit {0}
RisesIf (Some cells) = IsStrictlyIncreasing cells
