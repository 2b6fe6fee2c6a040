use Rattle.std.proofs.Common.{sym, ap, ◌∙◌}
use Rattle.qasm_expr.specs.Reader.{literal_kinds}
use Rattle.qasm_parser.specs.Kinds.{is_literal}
use Rattle.qasm_parser.proofs.Signs.{literals}
use Rattle.qasm_parser.proofs.Taking.{told_first, told_end}
use Rattle.qasm_parser.proofs.parser.Parser.begins_literal.Goals as goal

pub returns-in-Some : goal.returns-in-Some
returns-in-Some c = c.is_literal.ensures ∙ ap (λ b. is_literal b c.in-Some.token.kind) c.is_bit_string.ensures ∙ told_first c.args.self.now.text literal_kinds is_literal literals c.args.self.now.left c.in-Some.token (sym c.next.ensures.token ∙ c.in-Some.is)

pub returns-in-None : goal.returns-in-None
returns-in-None c = told_end c.args.self.now.text literal_kinds c.args.self.now.left (sym c.next.ensures.token ∙ c.in-None.is)
