use Rattle.std.proofs.Common.{sym, ◌∙◌, ◌∷◌, []}
use Rattle.qasm_expr.specs.TokenKinds.{mark_kind}
use Rattle.qasm_parser.proofs.Taking.{seen_mark, told_end}
use Rattle.qasm_parser.proofs.parser.Parser.sees.Goals as goal

pub returns-in-Some : goal.returns-in-Some
returns-in-Some c = c.is_mark.ensures ∙ seen_mark c.args.self.now.text c.args.mark c.args.self.now.left c.in-Some.token (sym c.next.ensures.token ∙ c.in-Some.is)

pub returns-in-None : goal.returns-in-None
returns-in-None c = told_end c.args.self.now.text (mark_kind c.args.mark ∷ []) c.args.self.now.left (sym c.next.ensures.token ∙ c.in-None.is)
