use Rattle.std.proofs.Common.{◌≡◌, drop}
use Rattle.phi_place.specs.Phis.{all_same}
use Rattle.phi_place.proofs.join.all_same.Given as goal

-- whether all have it is decided by those that are left
abbrev pub invariant-loop-way : goal.invariant-loop-way
invariant-loop-way l = all_same l.operand (drop l.way-index l.ways) l.c ≡ all_same l.operand l.ways l.c
