use Rattle.std.proofs.Common.{◌≡◌, List, ◌++◌, subst}
use Rattle.profile_check.specs.Visits.{Placed, placed_parts, placed_in}
use Rattle.profile_check.proofs.Visiting.{on_ok_then}
use Rattle.profile_check.proofs.visit.visit_block.Goals as goal

pub returns : goal.returns
returns g c = on_ok_then c.visit_parts.result (λ step. λ visited holds.
    let e : placed_parts c.args.place c.as_slice-phis.result.now c.as_slice-body.result.now c.last_of-last.result ≡ placed_in c.args.place c.args.block.now = cc in
    subst (λ (ps : List Placed). g.V.Visit.Holds c.visit_parts.new.visitor (visited ++ ps)) e (step visited holds)) c.visit_parts.ensures
