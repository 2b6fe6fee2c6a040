use Rattle.std.proofs.Common.{◌≡◌, sym, ap, ◌∙◌, ◌||◌}
use Rattle.grammar_parts.specs.Kinds.{is_some}
use Rattle.qasm_lexer.specs.Sizes.{bytes_of}
use Rattle.qasm_expr.specs.TokenKinds.{bits_of}
use Rattle.qasm_expr.specs.Reader.{expr_kinds}
use Rattle.qasm_parser.specs.Kinds.{is_literal, begins_operand}
use Rattle.qasm_parser.proofs.Signs.{exprs}
use Rattle.qasm_parser.proofs.Taking.{told_first, told_end}
use Rattle.qasm_parser.proofs.parser.Parser.begins_expr.Goals as goal

pub returns-then-is_literal : goal.returns-then-is_literal
returns-then-is_literal c =
    let literal : is_literal (is_some (bits_of (bytes_of c.args.self.now.text c.in-Some.token))) c.in-Some.token.kind ≡ c.is_literal.result = sym (c.is_literal.ensures ∙ ap (λ b. is_literal b c.in-Some.token.kind) c.is_bit_string.ensures) in
    c.if-is_literal.true ∙ sym (ap (λ b. b || begins_operand c.in-Some.token.kind) (literal ∙ c.if-is_literal.true)) ∙ told_first c.args.self.now.text expr_kinds (λ b k. is_literal b k || begins_operand k) exprs c.args.self.now.left c.in-Some.token (sym c.next.ensures.token ∙ c.in-Some.is)

pub returns-else-is_literal : goal.returns-else-is_literal
returns-else-is_literal c =
    let literal : is_literal (is_some (bits_of (bytes_of c.args.self.now.text c.in-Some.token))) c.in-Some.token.kind ≡ c.is_literal.result = sym (c.is_literal.ensures ∙ ap (λ b. is_literal b c.in-Some.token.kind) c.is_bit_string.ensures) in
    c.begins_operand.ensures ∙ sym (ap (λ b. b || begins_operand c.in-Some.token.kind) (literal ∙ c.if-is_literal.false)) ∙ told_first c.args.self.now.text expr_kinds (λ b k. is_literal b k || begins_operand k) exprs c.args.self.now.left c.in-Some.token (sym c.next.ensures.token ∙ c.in-Some.is)

pub returns-in-None : goal.returns-in-None
returns-in-None c = told_end c.args.self.now.text expr_kinds c.args.self.now.left (sym c.next.ensures.token ∙ c.in-None.is)
