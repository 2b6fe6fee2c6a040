use Rattle.std.proofs.Common.{◌≡◌, ◌<◌, true, false, not, Option, length, get_or, ap, sym, ◌∙◌, arith}
use Rattle.profile_check.specs.declared.mentions.How.TheVariants.{Assigned}
use Rattle.profile_check.specs.declared.place.Place.{Place}
use Rattle.profile_check.specs.declared.rounds.Use.{Use}
use Rattle.profile_check.specs.First.{first_of}
use Rattle.profile_check.specs.Rounds.{has_bit, is_lost}
use Rattle.profile_check.proofs.BitLemmas.{get_or_any}
use Rattle.profile_check.proofs.FirstLemmas.{picked_one, picked_none}
use Rattle.profile_check.proofs.carried.first_lost_use.Goals as goal
use Rattle.profile_check.proofs.carried.first_lost_use.Goals.{then-not-is_kept, else-not-is_kept}

pub loop-one-preserved : goal.loop-one-preserved
loop-one-preserved c =
    let uses = c.args.uses.now in
    let i = c.loop-one.one-index in
    let d : Use = record { mention = record { how = Assigned; at = record { block = 0; item = 0 }; number = 0 }; block = 0; slot = 0 } in
    let u = get_or uses i d in
    let inside : i < length uses = omega arith in
    let is : u ≡ get_or uses i u = get_or_any uses i d u inside in
    let test = is_lost (has_bit c.args.carried.now) (has_bit c.args.assigned.now) in
    let at = λ (x : Use). x.mention.at in
    elim c.if-not-is_kept.branch [
      | then-not-is_kept w ↦
          let lost : test u ≡ true = ap not (sym c.is_kept.ensures ∙ w.if-not-is_kept.true) in
          w.first-is ∙ w.first_of-first.ensures ∙ ap (λ (o : Option Place). first_of o (at u)) c.loop-one.invariant ∙ picked_one test at c.args.found uses i u inside is lost
      | else-not-is_kept w ↦
          let kept : test u ≡ false = ap not (sym c.is_kept.ensures ∙ w.if-not-is_kept.false) in
          w.first-is ∙ c.loop-one.invariant ∙ picked_none test at c.args.found uses i u inside is kept
    ]
