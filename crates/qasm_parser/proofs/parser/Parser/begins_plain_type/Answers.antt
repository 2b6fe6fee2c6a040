use Rattle.std.proofs.Common.{sym, ap, ◌∙◌}
use Rattle.grammar_parts.specs.Kinds.{kinds_of, is_some}
use Rattle.qasm_expr.specs.Grammar.{plain_types}
use Rattle.qasm_parser.specs.Kinds.{plain_type_of}
use Rattle.qasm_parser.proofs.Signs.{plain_begins, some_same}
use Rattle.qasm_parser.proofs.Taking.{told_first, told_end}
use Rattle.qasm_parser.proofs.parser.Parser.begins_plain_type.Goals as goal

pub returns-in-Some : goal.returns-in-Some
returns-in-Some c = c.is_some.ensures ∙ some_same c.plain_type_of.result ∙ ap is_some c.plain_type_of.ensures ∙ told_first c.args.self.now.text (kinds_of plain_types) (λ b k. is_some (plain_type_of k)) plain_begins c.args.self.now.left c.in-Some.token (sym c.next.ensures.token ∙ c.in-Some.is)

pub returns-in-None : goal.returns-in-None
returns-in-None c = told_end c.args.self.now.text (kinds_of plain_types) c.args.self.now.left (sym c.next.ensures.token ∙ c.in-None.is)
