use Rattle.std.proofs.Common.{◌≡◌, ◌≤◌, ◌+◌, ◌++◌, length, drop}
use Rattle.std.specs.Option.{option_copied}
use Rattle.phi_place.specs.Needs.{needs_of}
use Rattle.phi_place.specs.Phis.{values_for}
use Rattle.phi_place.proofs.join.place_values.Given as goal

-- the operands so far, and those of the cells that are left, are all
abbrev pub invariant-loop-c : goal.invariant-loop-c
invariant-loop-c l =
    (l.values.items ++ values_for (needs_of (option_copied l.cells) l.ways) (drop l.c l.first) l.c l.free ≡ values_for (needs_of (option_copied l.cells) l.ways) l.first 0 l.next)
    × (l.free ≤ l.next + l.c)
    × (length l.values.items ≡ l.c)
