use Rattle.std.proofs.Common.{sym, ◌∙◌, ◌∷◌, []}
use Rattle.qasm_expr.specs.TokenKinds.{keyword_kind}
use Rattle.qasm_parser.proofs.Taking.{seen_word, told_end}
use Rattle.qasm_parser.proofs.parser.Parser.sees_word.Goals as goal

pub returns-in-Some : goal.returns-in-Some
returns-in-Some c = c.is_word.ensures ∙ seen_word c.args.self.now.text c.args.word c.args.self.now.left c.in-Some.token (sym c.next.ensures.token ∙ c.in-Some.is)

pub returns-in-None : goal.returns-in-None
returns-in-None c = told_end c.args.self.now.text (keyword_kind c.args.word ∷ []) c.args.self.now.left (sym c.next.ensures.token ∙ c.in-None.is)
