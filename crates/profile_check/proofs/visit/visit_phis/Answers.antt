use Rattle.std.proofs.Common.{List, subst, arith}
use Rattle.qir_module.specs.Spots.{ThePhi}
use Rattle.profile_check.specs.Visits.{Placed}
use Rattle.profile_check.proofs.Visiting.{placed_first}
use Rattle.profile_check.proofs.visit.visit_phis.Goals as goal

pub loop-i-preserved : goal.loop-i-preserved
loop-i-preserved g c = λ visited holds.
    subst (λ (ps : List Placed). g.V.Visit.Holds c.visit.new.self ps)
    (placed_first ThePhi c.args.block c.loop-i.i c.args.phis.now c.index-phis-i.result visited (omega arith) c.index-phis-i.is)
    (c.in_ok-visit.ensures _ (c.loop-i.invariant visited holds))
