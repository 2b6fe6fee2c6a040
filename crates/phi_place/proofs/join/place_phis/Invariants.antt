use Rattle.std.proofs.Common.{◌≡◌, ◌≤◌, ◌+◌, ◌++◌, length, drop}
use Rattle.std.specs.Option.{option_copied}
use Rattle.phi_place.specs.Needs.{needs_of}
use Rattle.phi_place.specs.Phis.{phis_for}
use Rattle.phi_place.proofs.join.place_phis.Given as goal

-- the phis so far, and those of the cells that are left, are all
abbrev pub invariant-loop-c : goal.invariant-loop-c
invariant-loop-c l =
    (l.phis.items ++ phis_for (needs_of (option_copied l.cells) l.ways) l.ways (drop l.c l.kinds) l.c l.free ≡ phis_for (needs_of (option_copied l.cells) l.ways) l.ways l.kinds 0 l.next)
    × (l.free ≡ l.next + length l.phis.items)
    × (length l.phis.items ≤ l.c)
