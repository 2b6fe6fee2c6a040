use Rattle.std.proofs.Common.{refl, sym, ◌∙◌}
use Rattle.program_parser.proofs.Exits.{instead}
use Rattle.program_parser.proofs.calls.plain_call.Goals as goal

pub returns-then-sees_word : goal.returns-then-sees_word
returns-then-sees_word c = instead _ _ _ _ _ _ c.phase.result (rw (sym c.sees_word.ensures ∙ c.if-sees_word.true) refl) c.phase.ensures

pub returns : goal.returns
returns c = instead _ _ _ _ _ _ c.named_call.result (rw (sym c.sees_word.ensures ∙ c.if-sees_word.false) refl) c.named_call.ensures
