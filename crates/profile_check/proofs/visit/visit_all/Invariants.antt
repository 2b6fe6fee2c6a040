use Rattle.std.proofs.Common.{List, ◌++◌, take}
use Rattle.profile_check.specs.Visits.{Placed, placed_from}
use Rattle.profile_check.proofs.visit.visit_all.Given as goal

abbrev pub invariant-loop-place : goal.invariant-loop-place
invariant-loop-place g l = (visited : List Placed) → g.V.Visit.Holds l.fn.visitor visited → g.V.Visit.Holds l.visitor (visited ++ placed_from 0 (take l.place l.blocks))
