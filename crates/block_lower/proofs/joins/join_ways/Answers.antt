use Rattle.std.proofs.Common.{List, ℕ, map, ap, sym, ◌∙◌, arith}
use Rattle.std.specs.Prelude.{slice_get}
use Rattle.std.specs.List.{filter_map}
use Rattle.qir_module.specs.declared.instruction.Operand.{Operand}
use Rattle.phi_place.specs.State.{CellState}
use Rattle.block_lower.specs.Kept.{placed, shortened}
use Rattle.block_lower.proofs.Shortening.{join_phis_are, join_values_are, first_row}
use Rattle.block_lower.proofs.joins.join_ways.Goals as goal

pub returns-clause-phis : goal.returns-clause-phis
returns-clause-phis c =
    let cells = c.in_ok-cells-in-len1-up.cells.items in
    c.in_ok-phis-in-len1-up.ensures.phis
    ∙ join_phis_are c.args.ways.now c.deref-in-len1-up-2.result.now c.args.kinds.now c.deref-in-len1-up-3.result.now cells c.max.result c.args.next.now c.in_ok-cells-in-len1-up.ensures.ascends (omega (arith, c.max.ensures)) c.in_ok-cells-in-len1-up.ensures.all
    (c.deref-in-len1-up-2.ensures.value ∙ c.in_ok-short-in-len1-up.ensures ∙ ap (λ (us : List ℕ). map (shortened us) c.args.ways.now) c.deref.ensures.value)
    (c.deref-in-len1-up-3.ensures.value ∙ c.in_ok-kinds-in-len1-up.ensures.is ∙ ap (filter_map (slice_get c.args.kinds.now)) c.deref-in-len1-up.ensures.value)

pub returns-clause-values : goal.returns-clause-values
returns-clause-values c =
    let cells = c.in_ok-cells-in-len1-up.cells.items in
    let row = c.in_ok-values-in-len1-up.values in
    c.place.ensures ∙ ap (λ (us : List ℕ). placed us c.as_slice.result.now row) c.deref-in-len1-up-4.ensures.value
    ∙ ap (λ (os : List Operand). placed cells os row) (c.as_slice.ensures ∙ ap (λ (v : CellState). v.values) (c.state.view_is ∙ c.in_ok-phis-in-len1-up.ensures.state))
    ∙ join_values_are c.args.ways.now c.deref-in-len1-up-2.result.now row cells c.max.result c.args.next.now c.requires.some c.in_ok-cells-in-len1-up.ensures.ascends (omega (arith, c.max.ensures, c.len.ensures.length)) c.in_ok-cells-in-len1-up.ensures.all
    (c.deref-in-len1-up-2.ensures.value ∙ c.in_ok-short-in-len1-up.ensures ∙ ap (λ (us : List ℕ). map (shortened us) c.args.ways.now) c.deref.ensures.value)
    (first_row c.args.ways.now c.first-item.result row c.requires.some c.first-item.is (c.in_ok-values-in-len1-up.ensures ∙ ap (λ (v : CellState). v.values) c.first.view_is))
