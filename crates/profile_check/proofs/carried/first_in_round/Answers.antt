use Rattle.std.proofs.Common.{ℕ, List, Option, length, ap, ◌∙◌, subst}
use Rattle.profile_check.specs.declared.place.Place.{Place}
use Rattle.profile_check.specs.First.{first_among}
use Rattle.profile_check.specs.Rounds.{HoldsBits, carried_bit, has_bit, lost_uses, lost_jumps}
use Rattle.profile_check.proofs.BitLemmas.{round_is}
use Rattle.profile_check.proofs.carried.first_in_round.Goals as goal

pub returns : goal.returns
returns c =
    let blocks = c.args.blocks.now in
    let jumps = c.args.jumps.now in
    let uses = c.args.uses.now in
    let found = c.args.found in
    let a = c.in_ok-assigned.assigned.items in
    let v = c.in_ok-carried.carried.items in
    let P : List ℕ → Type 0 = λ ws. HoldsBits v (length blocks) (carried_bit blocks (has_bit ws)) in
    let holds : HoldsBits v (length blocks) (carried_bit blocks (has_bit a)) = subst P c.deref.ensures.value c.in_ok-carried.ensures in
    c.first_lost_jump.ensures
    ∙ ap (λ (o : Option Place). first_among o (lost_jumps (has_bit c.deref-4.result.now) (has_bit c.deref-5.result.now) jumps)) c.first_lost_use-found.ensures
    ∙ ap (λ (ws : List ℕ). first_among (first_among found (lost_uses (has_bit c.deref-2.result.now) (has_bit c.deref-3.result.now) uses)) (lost_jumps (has_bit ws) (has_bit c.deref-5.result.now) jumps)) c.deref-4.ensures.value
    ∙ ap (λ (ws : List ℕ). first_among (first_among found (lost_uses (has_bit c.deref-2.result.now) (has_bit c.deref-3.result.now) uses)) (lost_jumps (has_bit v) (has_bit ws) jumps)) c.deref-5.ensures.value
    ∙ ap (λ (ws : List ℕ). first_among (first_among found (lost_uses (has_bit ws) (has_bit c.deref-3.result.now) uses)) (lost_jumps (has_bit v) (has_bit a) jumps)) c.deref-2.ensures.value
    ∙ ap (λ (ws : List ℕ). first_among (first_among found (lost_uses (has_bit v) (has_bit ws) uses)) (lost_jumps (has_bit v) (has_bit a) jumps)) c.deref-3.ensures.value
    ∙ round_is blocks jumps uses v a found c.in_ok-assigned.ensures holds
