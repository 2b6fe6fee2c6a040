use Rattle.std.proofs.Common.{refl, sym, ◌∙◌}
use Rattle.program_parser.proofs.Exits.{instead}
use Rattle.program_parser.proofs.turns.turns.Goals as goal

pub returns-then-sees : goal.returns-then-sees
returns-then-sees c = instead _ _ _ _ _ _ c.span.result (rw (sym c.sees.ensures ∙ c.if-sees.true) refl) c.span.ensures

pub returns : goal.returns
returns c = instead _ _ _ _ _ _ c.chosen.result (rw (sym c.sees.ensures ∙ c.if-sees.false) refl) c.chosen.ensures
