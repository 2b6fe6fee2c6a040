use Rattle.std.proofs.Common.{◌≡◌, map, drop}
use Rattle.qir_module.specs.Spots.{ThePhi}
use Rattle.profile_check.specs.Walk.{first_item}
use Rattle.profile_check.specs.Phis.{phi_fits}
use Rattle.profile_check.proofs.phis.first_wrong.Given as goal

abbrev pub invariant-loop-i : goal.invariant-loop-i
invariant-loop-i l = first_item (phi_fits l.names) l.i (map ThePhi (drop l.i l.phis)) ≡ first_item (phi_fits l.names) 0 (map ThePhi l.phis)
