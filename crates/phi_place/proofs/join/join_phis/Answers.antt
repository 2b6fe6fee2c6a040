use Rattle.std.proofs.Common.{◌<◌, ◌+◌, ◌^◌, List, length, ap, sym, subst, ◌∙◌}
use Rattle.qir_module.specs.declared.instruction.Operand.{Operand}
use Rattle.phi_place.specs.State.{CellState}
use Rattle.phi_place.specs.Phis.{ways_differ, values_for}
use Rattle.phi_place.proofs.Joins.{first_of, carried_join, counted_phis, named_phis}
use Rattle.phi_place.proofs.join.join_phis.Goals as goal

pub place_values-requires-clause-room : goal.place_values-requires-clause-room
place_values-requires-clause-room c =
    subst (λ (vs : List Operand). c.args.next.now + length vs < 2 ^ 32) (sym (first_of c.args.ways.now c.first-item.result c.first.inside.values c.requires.some c.first-item.is (ap (λ (v : CellState). v.values) c.first.view_is))) c.requires.room_behind

pub returns-clause-state : goal.returns-clause-state
returns-clause-state c =
    ap (λ (vs : List Operand). record { block = c.args.block; values = vs })
    (c.in_ok-values-in-len1-up.ensures ∙ ap (λ (vs : List Operand). values_for (ways_differ c.args.ways.now) vs 0 c.args.next.now) (first_of c.args.ways.now c.first-item.result c.first.inside.values c.requires.some c.first-item.is (ap (λ (v : CellState). v.values) c.first.view_is)))

pub returns-clause-carries : goal.returns-clause-carries
returns-clause-carries c own fit =
    carried_join c.args.ways.now c.args.kinds.now c.args.next.now _ _ c.requires.some own fit c.in_ok-phis-in-len1-up.ensures.phis
    (c.in_ok-values-in-len1-up.ensures ∙ ap (λ (vs : List Operand). values_for (ways_differ c.args.ways.now) vs 0 c.args.next.now) (first_of c.args.ways.now c.first-item.result c.first.inside.values c.requires.some c.first-item.is (ap (λ (v : CellState). v.values) c.first.view_is)))

pub returns-clause-entries : goal.returns-clause-entries
returns-clause-entries c = named_phis (ways_differ c.args.ways.now) c.args.ways.now c.args.kinds.now c.args.next.now _ c.in_ok-phis-in-len1-up.ensures.phis

pub returns-clause-registers : goal.returns-clause-registers
returns-clause-registers c = counted_phis (ways_differ c.args.ways.now) c.args.ways.now c.args.kinds.now c.args.next.now _ c.in_ok-phis-in-len1-up.ensures.phis
