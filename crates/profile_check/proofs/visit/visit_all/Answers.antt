use Rattle.std.proofs.Common.{List, subst, arith}
use Rattle.profile_check.specs.Visits.{Placed}
use Rattle.profile_check.proofs.Visiting.{placed_block_more}
use Rattle.profile_check.proofs.visit.visit_all.Goals as goal

pub loop-place-preserved : goal.loop-place-preserved
loop-place-preserved g c = λ visited holds.
    subst (λ (ps : List Placed). g.V.Visit.Holds c.visit_block.new.visitor ps)
    (placed_block_more c.loop-place.place c.args.blocks.now c.index-blocks-place.result visited (omega arith) c.index-blocks-place.is)
    (c.in_ok-visit_block.ensures _ (c.loop-place.invariant visited holds))
