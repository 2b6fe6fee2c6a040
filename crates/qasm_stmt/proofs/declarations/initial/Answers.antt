use Rattle.std.proofs.Common.{Some, refl, sym, ◌∙◌, lit<, arith}
use Rattle.qasm_lexer.specs.declared.token.Mark.TheVariants as m
use Rattle.qasm_expr.specs.TokenKinds.{mark_kind}
use Rattle.qasm_stmt.proofs.Growing.{grown_same}
use Rattle.qasm_expr.proofs.Exits.{handed}
use Rattle.qasm_stmt.proofs.Lines.{mark_seen}
use Rattle.qasm_stmt.proofs.declarations.initial.Goals as goal

pub returns-then-not-sees-clause-grown : goal.returns-then-not-sees-clause-grown
returns-then-not-sees-clause-grown c = grown_same _

pub returns-in_err-found-clause-gives : goal.returns-in_err-found-clause-gives
returns-in_err-found-clause-gives c =
    let s = mark_seen c.args.text.now c.args.tokens.now c.args.from (mark_kind m.Assign) (lit< tt) c.requires.within (sym c.sees.ensures.value ∙ c.if-not-sees.false) in
    handed _ _ _ _ c.from_residual.ensures c.in_err-found.ensures.gives (omega arith) (λ x h. rw (s.1, s.3, h) refl)

pub returns-clause-gives : goal.returns-clause-gives
returns-clause-gives c =
    let s = mark_seen c.args.text.now c.args.tokens.now c.args.from (mark_kind m.Assign) (lit< tt) c.requires.within (sym c.sees.ensures.value ∙ c.if-not-sees.false) in
    let g = c.in_ok-found.ensures.gives in
    (Some g.0, g.1, omega arith, g.3, rw (s.1, s.3, g.4) refl)
