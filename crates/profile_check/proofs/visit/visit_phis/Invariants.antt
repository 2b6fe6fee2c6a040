use Rattle.std.proofs.Common.{List, ◌++◌, map, take}
use Rattle.qir_module.specs.Spots.{ThePhi}
use Rattle.profile_check.specs.Visits.{Placed, placed_items}
use Rattle.profile_check.proofs.visit.visit_phis.Given as goal

abbrev pub invariant-loop-i : goal.invariant-loop-i
invariant-loop-i g l = (visited : List Placed) → g.V.Visit.Holds l.fn.visitor visited → g.V.Visit.Holds l.visitor (visited ++ placed_items l.block 0 (map ThePhi (take l.i l.phis)))
