use Rattle.std.proofs.Common.{[], ◌∷◌, ap, ◌∙◌, List}
use Rattle.phi_place.specs.State.{CellState}
use Rattle.phi_place.specs.Phis.{is_listed, phis_for, values_for}
use Rattle.phi_place.proofs.Joins.{carried_header, counted_phis, named_header}
use Rattle.phi_place.proofs.join.header_phis.Goals as goal

pub returns-clause-carries : goal.returns-clause-carries
returns-clause-carries c fit = carried_header _ _ _ _ _ _ fit (c.in_ok-phis.ensures.phis ∙ ap (λ (ws : List CellState). phis_for (is_listed c.args.cells.now) ws c.args.kinds.now 0 c.args.next.now) c.from_ref-ways.ensures.value)
    (c.in_ok-values.ensures ∙ ap (λ (v : CellState). values_for (is_listed c.args.cells.now) v.values 0 c.args.next.now) c.entry.view_is)

pub returns-clause-registers : goal.returns-clause-registers
returns-clause-registers c = counted_phis (is_listed c.args.cells.now) (c.args.entry.now ∷ []) c.args.kinds.now c.args.next.now _ (c.in_ok-phis.ensures.phis ∙ ap (λ (ws : List CellState). phis_for (is_listed c.args.cells.now) ws c.args.kinds.now 0 c.args.next.now) c.from_ref-ways.ensures.value)

pub returns-clause-entries : goal.returns-clause-entries
returns-clause-entries c = named_header (is_listed c.args.cells.now) c.args.entry.now c.args.kinds.now c.args.next.now _ (c.in_ok-phis.ensures.phis ∙ ap (λ (ws : List CellState). phis_for (is_listed c.args.cells.now) ws c.args.kinds.now 0 c.args.next.now) c.from_ref-ways.ensures.value)
