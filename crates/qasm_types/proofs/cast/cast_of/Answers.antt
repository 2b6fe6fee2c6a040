use Rattle.std.proofs.Common.{sym, ◌∙◌}
use Rattle.qasm_types.proofs.Casting.{Decides-casts}
use Rattle.qasm_types.proofs.cast.cast_of.Goals as goal

pub returns-clause-row : goal.returns-clause-row
returns-clause-row c =
    let law = Decides-casts c.args.from.ty c.args.to c.args.from.whole in
    (λ h. law.0 (sym c.has_cast.ensures ∙ h), λ row. c.has_cast.ensures ∙ law.1 row)
