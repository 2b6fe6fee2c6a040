use Rattle.std.proofs.Common.{nat_eq, List, ap, ◌∙◌, ◌++◌, arith}
use Rattle.std.specs.HashMap.{get}
use Rattle.qir_module.specs.declared.instruction.Last.{Last}
use Rattle.qir_module.specs.Carried.{targets_of}
use Rattle.profile_check.specs.declared.place.Place.{Place}
use Rattle.profile_check.specs.declared.jumps.Jump.{Jump}
use Rattle.profile_check.specs.Rounds.{block_jumps, jumps_at, end_of}
use Rattle.profile_check.proofs.MentionLemmas.{jumps_more}
use Rattle.profile_check.proofs.jumps.back_jumps.Goals as goal

pub loop-block-preserved : goal.loop-block-preserved
loop-block-preserved c =
    let place = get nat_eq c.args.places.now in
    let b = c.index-blocks-block.result in
    c.in_ok-push_jumps.ensures
    ∙ ap (λ (at : Place). c.loop-block.jumps.items ++ jumps_at place at (targets_of c.last_of.result)) c.end_of.ensures
    ∙ ap (λ (last : Last). c.loop-block.jumps.items ++ jumps_at place (end_of c.loop-block.block b) (targets_of last)) c.last_of.ensures
    ∙ ap (λ (js : List Jump). js ++ block_jumps place c.loop-block.block b) c.loop-block.invariant
    ∙ jumps_more place c.loop-block.block c.args.blocks.now b (omega arith) c.index-blocks-block.is
