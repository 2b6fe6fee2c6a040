use Rattle.std.proofs.Common.{List, ℕ, map, length, ap, sym, subst, ◌∙◌, arith, rules}
use Rattle.std.specs.Prelude.{slice_get}
use Rattle.std.specs.List.{filter_map, range_with_len}
use Rattle.std.specs.List.Sorted.{IsStrictlyIncreasing}
use Rattle.phi_place.specs.State.{CellState}
use Rattle.block_lower.specs.Kept.{shortened}
use Rattle.phi_place.specs.Phis.{is_listed, phis_for}
use Rattle.block_lower.proofs.Shortening.{loop_phis_are}
use Rattle.block_lower.proofs.joins.start_ways.Goals as goal

pub start_phis-requires-clause-ascends : goal.start_phis-requires-clause-ascends
start_phis-requires-clause-ascends c = subst IsStrictlyIncreasing (sym c.deref-4.ensures.value) c.in_ok-all.ensures.ascends

pub returns : goal.returns
returns c =
    let kinds = c.args.kinds.now in
    let below = c.in_ok-below.below.items in
    c.in_ok-phis.ensures
    ∙ loop_phis_are c.args.ways.now c.deref-3.result.now kinds c.deref-5.result.now c.args.cells.now below c.deref-4.result.now (length kinds) c.args.next c.in_ok-below.ensures.ascends (omega arith) c.in_ok-below.ensures.is
    (c.deref-4.ensures.value ∙ c.in_ok-all.ensures.is ∙ ap (range_with_len 0) (search rules))
    (c.deref-3.ensures.value ∙ c.in_ok-short.ensures ∙ ap (λ (us : List ℕ). map (shortened us) c.args.ways.now) c.deref.ensures.value)
    (c.deref-5.ensures.value ∙ c.in_ok-few.ensures.is ∙ ap (filter_map (slice_get kinds)) c.deref-2.ensures.value)
