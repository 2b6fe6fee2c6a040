use Rattle.std.proofs.Common.{drop, refl, sym, ap, ◌∙◌}
use Rattle.grammar_parts.specs.Kinds.{has}
use Rattle.qasm_grammar.specs.Reader.{stmt_kinds}
use Rattle.qasm_expr.proofs.Places.{heads_among}
use Rattle.qasm_stmt.proofs.begins.begins_stmt.Goals as goal

pub returns : goal.returns
returns c = c.is_stmt_kind.ensures ∙ ap (has stmt_kinds) c.kind_at.ensures.value ∙ sym (heads_among c.args.text.now stmt_kinds (drop c.args.at c.args.tokens.now) refl)
