use Rattle.std.proofs.Common.{Some, refl, sym, ◌∙◌}
use Rattle.qasm_stmt.proofs.Growing.{grown_same}
use Rattle.qasm_stmt.proofs.actions.returned.Goals as goal

pub returns-then-not-begins_value-clause-grown : goal.returns-then-not-begins_value-clause-grown
returns-then-not-begins_value-clause-grown c = grown_same _

pub returns-clause-gives : goal.returns-clause-gives
returns-clause-gives c =
    let begun = sym c.begins_value.ensures ∙ c.if-not-begins_value.false in
    let g = c.in_ok-found.ensures.gives in
    (Some g.0, g.1, g.2, g.3, rw (begun, g.4) refl)
