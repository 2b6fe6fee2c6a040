use Rattle.std.proofs.Common.{sym, ◌∙◌}
use Rattle.qasm_parser.proofs.Taking.{told_first, told_end}
use Rattle.program_parser.specs.Begins.{kinds_with, is_begun}
use Rattle.program_parser.proofs.Firsts.{begun}
use Rattle.program_parser.proofs.begins.begins.Goals as goal

pub returns-in-Some : goal.returns-in-Some
returns-in-Some c = c.is_begun.ensures ∙ told_first c.args.parser.now.text (kinds_with c.args.part) (λ b k. is_begun c.args.part k) (begun c.args.part) c.args.parser.now.left c.in-Some.token (sym c.next.ensures.token ∙ c.in-Some.is)

pub returns-in-None : goal.returns-in-None
returns-in-None c = told_end c.args.parser.now.text (kinds_with c.args.part) c.args.parser.now.left (sym c.next.ensures.token ∙ c.in-None.is)
