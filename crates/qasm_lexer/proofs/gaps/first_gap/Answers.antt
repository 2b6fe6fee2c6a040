use Rattle.std.proofs.Common.{sym, ◌∙◌}
use Rattle.qasm_lexer.proofs.Cutting.{chars_cut}
use Rattle.qasm_lexer.proofs.Closing.{blank_gap, nothing_here, nothing_at_end}
use Rattle.qasm_lexer.proofs.gaps.first_gap.Goals as goal

pub returns-then-is_blank : goal.returns-then-is_blank
returns-then-is_blank c = blank_gap c.in-Some.ensures (sym c.is_blank.ensures ∙ c.if-is_blank.true)

pub returns-then-first-ne47 : goal.returns-then-first-ne47
returns-then-first-ne47 c = nothing_here _ _ _ (chars_cut c.in-Some.ensures) (sym c.is_blank.ensures ∙ c.if-is_blank.false) c.if-first-ne47.true

pub returns-in_default : goal.returns-in_default
returns-in_default c = nothing_at_end _ c.in_default.ensures
