use Rattle.std.proofs.Common.{sym, ap, ◌∙◌}
use Rattle.grammar_parts.specs.Kinds.{kinds_of, is_some}
use Rattle.qasm_expr.specs.Seen.{rows_at}
use Rattle.qasm_parser.specs.Kinds.{operator_of, of_level}
use Rattle.qasm_parser.proofs.Signs.{level_begins, some_same}
use Rattle.qasm_parser.proofs.Taking.{told_first, told_end}
use Rattle.qasm_parser.proofs.parser.Parser.begins_operator.Goals as goal

pub returns-in-Some : goal.returns-in-Some
returns-in-Some c = c.is_some.ensures ∙ some_same c.operator_at.result ∙ ap is_some c.operator_at.ensures ∙ told_first c.args.self.now.text (kinds_of (rows_at c.args.rank)) (λ b k. is_some (of_level c.args.rank (operator_of k))) (λ b k. level_begins c.args.rank b k c.requires) c.args.self.now.left c.in-Some.token (sym c.next.ensures.token ∙ c.in-Some.is)

pub returns-in-None : goal.returns-in-None
returns-in-None c = told_end c.args.self.now.text (kinds_of (rows_at c.args.rank)) c.args.self.now.left (sym c.next.ensures.token ∙ c.in-None.is)
