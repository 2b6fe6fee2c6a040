use Rattle.std.proofs.Common.{true, Option, Some, drop, refl, sym, ◌∙◌, lit<, arith}
use Rattle.std.proofs.lemmas.Result.{err_from_is_err_and}
use Rattle.qasm_lexer.specs.declared.token.Token.{Token}
use Rattle.qasm_lexer.specs.declared.token.Keyword.TheVariants as k
use Rattle.qasm_lexer.specs.declared.token.Mark.TheVariants as m
use Rattle.grammar_parts.specs.Reading.{take_one}
use Rattle.qasm_expr.specs.TokenKinds.{keyword_kind, mark_kind}
use Rattle.qasm_expr.specs.Reader.{read_sign}
use Rattle.qasm_expr.proofs.Exits.{exit, exit_mark, handed_memory, mark_memory}
use Rattle.qasm_expr.proofs.Places.{heads_sign}
use Rattle.qasm_grammar.specs.Parts.{version_of}
use Rattle.qasm_grammar.specs.Reader.{read_version_line}
use Rattle.qasm_stmt.specs.Seen.{Any}
use Rattle.qasm_stmt.proofs.whole.version.Goals as goal

pub returns-in_err-at-2-clause-gives : goal.returns-in_err-at-2-clause-gives
unfolding read_version_line
returns-in_err-at-2-clause-gives c =
    let seen = heads_sign c.args.text.now (keyword_kind k.OpenQasm) (drop c.args.from c.args.tokens.now) true (lit< tt) (sym c.sees_word.ensures.value ∙ c.if-not-sees_word.false) in
    let w = c.in_ok-at.ensures.gives in
    let p = err_from_is_err_and c.from_residual-in_err-at-2.result c.from_residual-in_err-at-2.ensures.1 in
    rw (p.1, p.2) (exit (Any {X = Unit {0}} {A = Token}) (Any {X = Unit {0}} {A = Option Token}) c.args.tokens.now c.args.from c.in_ok-at.at (take_one version_of (drop c.in_ok-at.at c.args.tokens.now)) _ c.in_err-at-2.field-0.0 (λ x h. rw (seen, w.4, h) refl) w.2 c.in_err-at-2.ensures.gives)

pub returns-in_err-at-3-clause-gives : goal.returns-in_err-at-3-clause-gives
unfolding read_version_line
returns-in_err-at-3-clause-gives c =
    let seen = heads_sign c.args.text.now (keyword_kind k.OpenQasm) (drop c.args.from c.args.tokens.now) true (lit< tt) (sym c.sees_word.ensures.value ∙ c.if-not-sees_word.false) in
    let w = c.in_ok-at.ensures.gives in
    let v = c.in_ok-at-2.ensures.gives in
    let p = err_from_is_err_and c.from_residual-in_err-at-3.result c.from_residual-in_err-at-3.ensures.1 in
    rw (p.1, p.2) (exit_mark (Any {X = Unit {0}} {A = Option Token}) c.args.tokens.now c.args.from c.in_ok-at-2.at (read_sign c.args.text.now (mark_kind m.Semicolon) (drop c.in_ok-at-2.at c.args.tokens.now)) _ c.in_err-at-3.field-0.0 (λ x h. rw (seen, w.4, v.4, h) refl) (omega (arith, w.2, v.2)) v.3 c.in_err-at-3.ensures)

pub returns-clause-gives : goal.returns-clause-gives
unfolding read_version_line
returns-clause-gives c =
    let seen = heads_sign c.args.text.now (keyword_kind k.OpenQasm) (drop c.args.from c.args.tokens.now) true (lit< tt) (sym c.sees_word.ensures.value ∙ c.if-not-sees_word.false) in
    let w = c.in_ok-at.ensures.gives in
    let v = c.in_ok-at-2.ensures.gives in
    let s = c.in_ok-at-3.ensures in
    (Some v.0, tt, omega (arith, w.2, v.2, s.1), s.2, rw (seen, w.4, v.4, s.4) refl)

pub returns-in_err-at-3-clause-memory : goal.returns-in_err-at-3-clause-memory
returns-in_err-at-3-clause-memory c = handed_memory _ _ c.from_residual-in_err-at-3.ensures.1 (mark_memory _ _ _ _ c.in_err-at-3.ensures)
