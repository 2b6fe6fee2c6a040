use Rattle.std.proofs.Common.{◌∷◌, [], ◌||◌, sym, ap, ◌∙◌}
use Rattle.grammar_parts.specs.Reading.{heads}
use Rattle.qasm_expr.specs.TokenKinds.{keyword_kind}
use Rattle.qasm_expr.specs.Reader.{begins, expr_kinds}
use Rattle.program_parser.proofs.Firsts.{heads-append}
use Rattle.qasm_lexer.specs.declared.token.Keyword.TheVariants as k
use Rattle.program_parser.proofs.begins.begins_value.Goals as goal

pub returns-then-begins_expr : goal.returns-then-begins_expr
returns-then-begins_expr c = c.if-begins_expr.true ∙ sym (ap (λ b. b || heads (begins c.args.parser.now.text (keyword_kind k.Measure ∷ [])) c.args.parser.now.left) (sym c.begins_expr.ensures ∙ c.if-begins_expr.true)) ∙ sym (heads-append c.args.parser.now.text expr_kinds (keyword_kind k.Measure ∷ []) c.args.parser.now.left)

pub returns-else-begins_expr : goal.returns-else-begins_expr
returns-else-begins_expr c = c.sees_word.ensures ∙ sym (ap (λ b. b || heads (begins c.args.parser.now.text (keyword_kind k.Measure ∷ [])) c.args.parser.now.left) (sym c.begins_expr.ensures ∙ c.if-begins_expr.false)) ∙ sym (heads-append c.args.parser.now.text expr_kinds (keyword_kind k.Measure ∷ []) c.args.parser.now.left)
