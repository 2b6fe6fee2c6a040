use Rattle.std.proofs.Common.{None, Option, List, take, ap, sym, ◌∙◌, arith}
use Rattle.std.specs.declared.vec.Vec.{Vec}
use Rattle.std.specs.declared.alloc.Global.{Global}
use Rattle.profile_check.specs.declared.place.Place.{Place}
use Rattle.profile_check.specs.declared.rounds.Use.{Use}
use Rattle.profile_check.specs.First.{first_among}
use Rattle.profile_check.specs.Rounds.{lost_in_round, lost_in_rounds}
use Rattle.profile_check.proofs.FirstLemmas.{among-append}
use Rattle.profile_check.proofs.MentionLemmas.{flat_more}
use Rattle.profile_check.proofs.lost.first_in_rounds.Goals as goal

pub loop-uses-preserved : goal.loop-uses-preserved
loop-uses-preserved c =
    let blocks = c.args.blocks.now in
    let jumps = c.args.jumps.now in
    let rounds = c.args.rounds.now in
    let i = c.loop-uses.uses-index in
    let v = c.uses-item.result in
    let front = lost_in_rounds blocks jumps (take i rounds) in
    c.in_ok-first.ensures
    ∙ ap (λ (o : Option Place). first_among o (lost_in_round blocks jumps c.as_slice.result.now)) c.loop-uses.invariant
    ∙ ap (λ (us : List Use). first_among (first_among None front) (lost_in_round blocks jumps us)) c.as_slice.ensures.value
    ∙ sym (among-append None front (lost_in_round blocks jumps v.items))
    ∙ ap (first_among None) (sym (flat_more (λ (uses : Vec Use Global). lost_in_round blocks jumps uses.items) rounds i v (omega arith) c.uses-item.is))
