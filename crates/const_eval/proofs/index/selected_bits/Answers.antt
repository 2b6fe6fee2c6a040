use Rattle.std.proofs.Common.{◌≤◌, length, reverse, ap, arith}
use Rattle.alias_resolve.specs.Places.{items_at}
use Rattle.const_eval.proofs.Placing.{length_items_at}
use Rattle.const_eval.proofs.index.selected_bits.Goals as goal

pub invariant_of-result : goal.invariant_of-result
invariant_of-result c =
    let found = ap length c.in_ok-bits.ensures in
    let places = ap length c.deref.ensures.value in
    let le : length (items_at (reverse c.args.text.now) c.deref.result.now) ≤ length c.deref.result.now = length_items_at (reverse c.args.text.now) c.deref.result.now in
    record { few = omega (arith, found, places, le, c.reverse.ensures.len, c.requires) }
