use Rattle.std.proofs.Common.{sym, ◌∙◌, arith}
use Rattle.qasm_expr.proofs.Places.{opener_yes, opener_no, opener_some, mark_positive}
use Rattle.qasm_expr.specs.TokenKinds.{mark_kind}
use Rattle.qasm_expr.proofs.sees.open.Goals as goal

pub returns-then-room-gt0-clause-passes : goal.returns-then-room-gt0-clause-passes
returns-then-room-gt0-clause-passes c = opener_some c.args.text.now c.args.tokens.now c.args.at (mark_kind c.args.mark) (mark_positive c.args.mark) c.args.room c.expect.result c.if-room-gt0.true c.expect.ensures

pub returns-then-sees-clause-passes : goal.returns-then-sees-clause-passes
returns-then-sees-clause-passes c = opener_yes c.args.text.now c.args.tokens.now c.args.at (mark_kind c.args.mark) (mark_positive c.args.mark) c.args.room (omega arith) (sym c.sees.ensures.value ∙ c.if-sees.true)

pub returns-else-sees-clause-passes : goal.returns-else-sees-clause-passes
returns-else-sees-clause-passes c = opener_no c.args.text.now c.args.tokens.now c.args.at (mark_kind c.args.mark) (mark_positive c.args.mark) c.args.room (omega arith) (sym c.sees.ensures.value ∙ c.if-sees.false)
