use Rattle.std.proofs.Common.{◌+◌, true, Some, drop, refl, sym, ◌∙◌, arith}
use Rattle.std.proofs.lemmas.Result.{err_from_is_err_and}
use Rattle.qasm_lexer.specs.declared.token.Mark.TheVariants as m
use Rattle.qasm_expr.specs.TokenKinds.{mark_kind}
use Rattle.qasm_expr.proofs.Places.{heads_sign, passes_yes}
use Rattle.qasm_expr.proofs.Exits.{exit}
use Rattle.qasm_grammar.specs.Reader.{read_any_type}
use Rattle.qasm_stmt.specs.Seen.{IfBoth, IsType}
use Rattle.qasm_stmt.proofs.Growing.{grown_same}
use Rattle.qasm_stmt.proofs.parameters.result.Goals as goal

pub returns-then-not-sees-clause-grown : goal.returns-then-not-sees-clause-grown
returns-then-not-sees-clause-grown c = grown_same _

pub returns-in_err-ty-clause-gives : goal.returns-in_err-ty-clause-gives
returns-in_err-ty-clause-gives c =
    let arrow = heads_sign c.args.text.now (mark_kind m.Arrow) (drop c.args.from c.args.tokens.now) true (omega arith) (sym c.sees.ensures.value ∙ c.if-not-sees.false) in
    let mark = passes_yes c.args.text.now c.args.tokens.now c.args.from (mark_kind m.Arrow) (omega arith) c.requires.within (sym c.sees.ensures.value ∙ c.if-not-sees.false) in
    let p = err_from_is_err_and c.from_residual.result c.from_residual.ensures.1 in
    rw (p.1, p.2) (exit (IsType c.any_type.new.arena) (IfBoth (IsType c.any_type.new.arena)) c.args.tokens.now c.args.from (c.args.from + 1) (read_any_type c.args.text.now (Some 64) c.args.room (drop (c.args.from + 1) c.args.tokens.now)) _ c.in_err-ty.field-0.0 (λ x h. rw (arrow, mark.4, h) refl) (omega arith) c.in_err-ty.ensures.gives)

pub returns-clause-gives : goal.returns-clause-gives
returns-clause-gives c =
    let arrow = heads_sign c.args.text.now (mark_kind m.Arrow) (drop c.args.from c.args.tokens.now) true (omega arith) (sym c.sees.ensures.value ∙ c.if-not-sees.false) in
    let mark = passes_yes c.args.text.now c.args.tokens.now c.args.from (mark_kind m.Arrow) (omega arith) c.requires.within (sym c.sees.ensures.value ∙ c.if-not-sees.false) in
    let r = c.in_ok-ty.ensures.gives in
    (Some r.0, r.1, omega (arith, r.2), r.3, rw (arrow, mark.4, r.4) refl)
