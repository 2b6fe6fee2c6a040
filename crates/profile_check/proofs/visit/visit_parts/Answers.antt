use Rattle.std.proofs.Common.{List, subst}
use Rattle.profile_check.specs.Visits.{Placed}
use Rattle.profile_check.proofs.Visiting.{placed_three, on_ok_then}
use Rattle.profile_check.proofs.visit.visit_parts.Goals as goal

pub returns : goal.returns
returns g c = on_ok_then c.visit.result (λ step. λ visited holds.
    subst (λ (ps : List Placed). g.V.Visit.Holds c.visit.new.self ps)
    (placed_three c.args.block c.args.phis.now c.args.body.now c.args.last visited)
    (step _ (c.in_ok-visit_body.ensures _ (c.in_ok-visit_phis.ensures visited holds)))) c.visit.ensures
