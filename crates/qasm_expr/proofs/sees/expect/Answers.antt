use Rattle.std.proofs.Common.{sym, ◌∙◌}
use Rattle.qasm_expr.proofs.Places.{passes_yes, passes_no, mark_positive}
use Rattle.qasm_expr.specs.TokenKinds.{mark_kind}
use Rattle.qasm_expr.proofs.sees.expect.Goals as goal

pub returns-then-sees : goal.returns-then-sees
returns-then-sees c = passes_yes c.args.text.now c.args.tokens.now c.args.at (mark_kind c.args.mark) (mark_positive c.args.mark) c.requires.within (sym c.sees.ensures.value ∙ c.if-sees.true)

pub returns-else-sees : goal.returns-else-sees
returns-else-sees c = passes_no c.args.text.now c.args.tokens.now c.args.at (mark_kind c.args.mark) (mark_positive c.args.mark) (sym c.sees.ensures.value ∙ c.if-sees.false)
