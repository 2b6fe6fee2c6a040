use Rattle.std.proofs.Common.{sym, ◌∙◌}
use Rattle.qasm_expr.specs.Reader.{type_kinds}
use Rattle.qasm_parser.specs.Kinds.{is_type}
use Rattle.qasm_parser.proofs.Signs.{types}
use Rattle.qasm_parser.proofs.Taking.{told_first, told_end}
use Rattle.qasm_parser.proofs.parser.Parser.begins_type.Goals as goal

pub returns-in-Some : goal.returns-in-Some
returns-in-Some c = c.is_type.ensures ∙ told_first c.args.self.now.text type_kinds (λ b k. is_type k) types c.args.self.now.left c.in-Some.token (sym c.next.ensures.token ∙ c.in-Some.is)

pub returns-in-None : goal.returns-in-None
returns-in-None c = told_end c.args.self.now.text type_kinds c.args.self.now.left (sym c.next.ensures.token ∙ c.in-None.is)
