use Rattle.std.proofs.Common.{List, subst, arith}
use Rattle.qir_module.specs.Spots.{TheInstr}
use Rattle.profile_check.specs.Visits.{Placed}
use Rattle.profile_check.proofs.Visiting.{placed_more}
use Rattle.profile_check.proofs.visit.visit_body.Goals as goal

pub loop-i-preserved : goal.loop-i-preserved
loop-i-preserved g c = λ visited holds.
    subst (λ (ps : List Placed). g.V.Visit.Holds c.visit.new.self ps)
    (placed_more TheInstr c.args.block c.args.from c.loop-i.i c.args.body.now c.index-body-i.result visited (omega arith) c.index-body-i.is)
    (c.in_ok-visit.ensures _ (c.loop-i.invariant visited holds))
