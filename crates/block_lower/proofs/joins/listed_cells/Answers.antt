use Rattle.std.proofs.Common.{sym, subst, ap, ◌∙◌}
use Rattle.std.specs.Prelude.{filter, nat_lt}
use Rattle.std.specs.List.Sorted.{IsStrictlyIncreasing}
use Rattle.block_lower.proofs.Shortening.{listed_below}
use Rattle.block_lower.proofs.joins.listed_cells.Goals as goal

pub cells_below-requires : goal.cells_below-requires
cells_below-requires c = subst IsStrictlyIncreasing (sym c.deref.ensures.value) c.in_ok-all.ensures.ascends

pub returns-clause-all : goal.returns-clause-all
returns-clause-all c = λ x lt none.
    c.in_ok-all.ensures.all x
    (sym (listed_below c.args.n c.in_ok-all.all.items c.in_ok-below.below.items x (c.in_ok-below.ensures.is ∙ ap (filter (λ k. nat_lt k c.args.n)) c.deref.ensures.value) lt) ∙ none)
