use Rattle.std.proofs.Common.{◌≡◌, ◌++◌, drop}
use Rattle.phi_place.specs.Phis.{entries_of}
use Rattle.phi_place.proofs.join.entries.Given as goal

abbrev pub invariant-loop-way : goal.invariant-loop-way
invariant-loop-way l = l.items.items ++ entries_of (drop l.way-index l.ways) l.c ≡ entries_of l.ways l.c
