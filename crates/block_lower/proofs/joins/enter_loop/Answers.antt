use Rattle.std.proofs.Common.{List, ℕ, [], ◌∷◌, map, length, ap, sym, subst, ◌∙◌, arith, rules}
use Rattle.std.specs.Prelude.{slice_get}
use Rattle.std.specs.List.{filter_map, range_with_len}
use Rattle.std.specs.List.Sorted.{IsStrictlyIncreasing}
use Rattle.qir_module.specs.declared.instruction.Operand.{Operand}
use Rattle.phi_place.specs.State.{CellState}
use Rattle.phi_place.specs.Phis.{is_listed, phis_for, values_for}
use Rattle.block_lower.specs.Kept.{placed, picked, shortened}
use Rattle.block_lower.proofs.Shortening.{loop_phis_are, loop_values_are}
use Rattle.block_lower.proofs.joins.enter_loop.Goals as goal

pub header_phis-requires-clause-ascends : goal.header_phis-requires-clause-ascends
header_phis-requires-clause-ascends c = subst IsStrictlyIncreasing (sym c.deref-3.ensures.value) c.in_ok-all.ensures.ascends

pub returns-clause-phis : goal.returns-clause-phis
returns-clause-phis c =
    let kinds = c.args.kinds.now in
    let below = c.in_ok-below.below.items in
    let entry = c.entry.inside in
    c.in_ok-phis.ensures.phis
    ∙ loop_phis_are (c.args.entry.now ∷ []) (record { block = entry.block; values = c.in_ok-values.values } ∷ []) kinds c.deref-4.result.now c.args.cells.now below c.deref-3.result.now c.max.result c.args.next.now c.in_ok-below.ensures.ascends (omega (arith, c.max.ensures)) c.in_ok-below.ensures.is
    (c.deref-3.ensures.value ∙ c.in_ok-all.ensures.is ∙ ap (range_with_len 0) (search rules))
    (ap (λ (os : List Operand). record { block = entry.block; values = os } ∷ []) (c.in_ok-values.ensures ∙ ap (λ (us : List ℕ). picked us entry.values) c.deref.ensures.value) ∙ ap (λ (v : CellState). shortened below v ∷ []) c.entry.view_is)
    (c.deref-4.ensures.value ∙ c.in_ok-few.ensures.is ∙ ap (filter_map (slice_get kinds)) c.deref-2.ensures.value)

pub returns-clause-values : goal.returns-clause-values
returns-clause-values c =
    let below = c.in_ok-below.below.items in
    let entry = c.entry.inside in
    let row = c.in_ok-row.row in
    let all = c.deref-3.result.now in
    c.place.ensures ∙ ap (λ (us : List ℕ). placed us c.as_slice.result.now row) c.deref-5.ensures.value
    ∙ ap (λ (os : List Operand). placed below os row)
    (c.as_slice.ensures ∙ ap (λ (v : CellState). v.values) (c.state.view_is ∙ c.in_ok-phis.ensures.state)
    ∙ ap (λ (os : List Operand). values_for (is_listed all) os 0 c.args.next.now) (c.in_ok-values.ensures ∙ ap (λ (us : List ℕ). picked us entry.values) c.deref.ensures.value ∙ ap (picked below) (sym c.in_ok-row.ensures)))
    ∙ loop_values_are row c.args.cells.now below all c.max.result c.args.next.now c.in_ok-below.ensures.ascends (omega (arith, c.max.ensures, c.len.ensures.length)) c.in_ok-below.ensures.is
    (c.deref-3.ensures.value ∙ c.in_ok-all.ensures.is ∙ ap (range_with_len 0) (search rules))
    ∙ ap (λ (os : List Operand). values_for (is_listed c.args.cells.now) os 0 c.args.next.now) (c.in_ok-row.ensures ∙ ap (λ (v : CellState). v.values) c.entry.view_is)
