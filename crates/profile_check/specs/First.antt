-- Serves private contracts: the first of some places, in the order of the text.
use Rattle.std.specs.Prelude.{nat_eq, nat_lt, if◌then◌else◌, Bool, ◌&&◌, ◌||◌, List, [], ◌∷◌, Option, Some, None}
use Rattle.profile_check.specs.declared.place.Place.{Place}

abbrev pub is_before : Place → Place → Bool
is_before p q = nat_lt p.block q.block || (nat_eq p.block q.block && nat_lt p.item q.item)

abbrev pub first_of : Option Place → Place → Option Place
first_of None p = Some p
first_of (Some q) p = if is_before p q then Some p else Some q

-- the first of a place, if one was found, and some places
abbrev pub first_among : Option Place → List Place → Option Place
first_among found [] = found
first_among found (p ∷ ps) = first_among (first_of found p) ps
