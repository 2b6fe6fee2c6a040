use Rattle.std.proofs.Common.{◌+◌, ℕ, nat_lt, List, filter, ap, sym, ◌∙◌, subst, arith}
use Rattle.profile_check.specs.Rounds.{HoldsBits, carried_bit, has_bit, meets}
use Rattle.profile_check.proofs.BitLemmas.{carried_step}
use Rattle.profile_check.proofs.carried.carried_words.Goals as goal

pub loop-block-preserved : goal.loop-block-preserved
loop-block-preserved c =
    let blocks = c.args.blocks.now in
    let k = c.loop-block.block in
    let words = c.loop-block.words.items in
    let assigned = c.args.assigned.now in
    let word = c.carried_into-met.result in
    let P : List ℕ → Type 0 = λ ws. HoldsBits ws (k + 1) (carried_bit blocks (has_bit assigned)) in
    subst P (sym c.in_ok-push.ensures.items) (carried_step blocks c.args.ways.now.items words assigned k word c.requires (omega arith) c.loop-block.invariant (λ j small.
    c.carried_into-met.ensures j small
    ∙ ap (λ (ws : List ℕ). meets (has_bit ws) (has_bit assigned) (filter (λ q. nat_lt q k) c.row.result.now) j) c.deref.ensures.value
    ∙ ap (λ (ns : List ℕ). meets (has_bit words) (has_bit assigned) (filter (λ q. nat_lt q k) ns) j) c.row.ensures))
