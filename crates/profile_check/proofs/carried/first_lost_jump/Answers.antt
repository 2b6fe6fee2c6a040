use Rattle.std.proofs.Common.{◌≡◌, ◌<◌, true, false, not, Option, length, get_or, ap, sym, ◌∙◌, arith}
use Rattle.profile_check.specs.declared.place.Place.{Place}
use Rattle.profile_check.specs.declared.jumps.Jump.{Jump}
use Rattle.profile_check.specs.First.{first_of}
use Rattle.profile_check.specs.Rounds.{has_bit, jump_kept}
use Rattle.profile_check.proofs.BitLemmas.{get_or_any}
use Rattle.profile_check.proofs.FirstLemmas.{picked_one, picked_none}
use Rattle.profile_check.proofs.carried.first_lost_jump.Goals as goal
use Rattle.profile_check.proofs.carried.first_lost_jump.Goals.{then-not-is_jump_kept, else-not-is_jump_kept}

pub loop-jump-preserved : goal.loop-jump-preserved
loop-jump-preserved c =
    let jumps = c.args.jumps.now in
    let i = c.loop-jump.jump-index in
    let d : Jump = record { at = record { block = 0; item = 0 }; to = 0 } in
    let u = get_or jumps i d in
    let inside : i < length jumps = omega arith in
    let is : u ≡ get_or jumps i u = get_or_any jumps i d u inside in
    let test = λ (x : Jump). not (jump_kept (has_bit c.args.carried.now) (has_bit c.args.assigned.now) x) in
    let at = λ (x : Jump). x.at in
    elim c.if-not-is_jump_kept.branch [
      | then-not-is_jump_kept w ↦
          let lost : test u ≡ true = ap not (sym c.is_jump_kept.ensures ∙ w.if-not-is_jump_kept.true) in
          w.first-is ∙ w.first_of-first.ensures ∙ ap (λ (o : Option Place). first_of o (at u)) c.loop-jump.invariant ∙ picked_one test at c.args.found jumps i u inside is lost
      | else-not-is_jump_kept w ↦
          let kept : test u ≡ false = ap not (sym c.is_jump_kept.ensures ∙ w.if-not-is_jump_kept.false) in
          w.first-is ∙ c.loop-jump.invariant ∙ picked_none test at c.args.found jumps i u inside is kept
    ]
