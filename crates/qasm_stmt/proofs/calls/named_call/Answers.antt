use Rattle.std.proofs.Common.{true, false, [], drop, le_refl, refl, sym, ◌∙◌, arith}
use Rattle.std.proofs.lemmas.Result.{on_ok_weaker}
use Rattle.qasm_lexer.specs.declared.token.Mark.TheVariants as m
use Rattle.qasm_expr.specs.TokenKinds.{mark_kind}
use Rattle.qasm_expr.proofs.Exits.{behind, handed}
use Rattle.qasm_expr.proofs.Places.{heads_sign}
use Rattle.qasm_grammar.specs.Reader.{read_named_call}
use Rattle.qasm_stmt.specs.Seen.{IsTree}
use Rattle.qasm_stmt.proofs.Filling.{no_items}
use Rattle.qasm_stmt.proofs.Growing.{grown_on, name_later}
use Rattle.qasm_stmt.proofs.calls.named_call.Goals as goal

pub returns-in_err-gate-clause-gives : goal.returns-in_err-gate-clause-gives
unfolding read_named_call
returns-in_err-gate-clause-gives c =
    handed _ _ _ _ c.from_residual.ensures c.in_err-gate.ensures.gives (le_refl _) (λ e h. rw h refl)

pub returns-then-not-sees-clause-gives : goal.returns-then-not-sees-clause-gives
unfolding read_named_call
returns-then-not-sees-clause-gives c =
    let g = c.in_ok-gate.ensures.gives in
    let none = heads_sign c.args.text.now (mark_kind m.LeftParen) (drop c.in_ok-gate.at c.args.tokens.now) false (omega arith) (sym c.sees.ensures.value ∙ c.if-not-sees.true) in
    behind _ _ _ _ _ _ c.applied.result g.2 (rw (g.4, none) refl) (c.applied.ensures.gives g.0 [] g.1 (no_items (IsTree c.declared.new.arena) c.new-none.result.items c.new-none.ensures.items))

pub returns-then-not-sees-clause-grown : goal.returns-then-not-sees-clause-grown
returns-then-not-sees-clause-grown c = on_ok_weaker c.applied.result (grown_on c.in_ok-gate.ensures.grown) c.applied.ensures.grown

pub returns-in_err-args-clause-gives : goal.returns-in_err-args-clause-gives
unfolding read_named_call
returns-in_err-args-clause-gives c =
    let g = c.in_ok-gate.ensures.gives in
    let some = heads_sign c.args.text.now (mark_kind m.LeftParen) (drop c.in_ok-gate.at c.args.tokens.now) true (omega arith) (sym c.sees.ensures.value ∙ c.if-not-sees.false) in
    handed _ _ _ _ c.from_residual-in_err-args.ensures c.in_err-args.ensures.gives g.2 (λ e h. rw (g.4, some, h) refl)

pub returns-clause-gives : goal.returns-clause-gives
unfolding read_named_call
returns-clause-gives c =
    let g = c.in_ok-gate.ensures.gives in
    let some = heads_sign c.args.text.now (mark_kind m.LeftParen) (drop c.in_ok-gate.at c.args.tokens.now) true (omega arith) (sym c.sees.ensures.value ∙ c.if-not-sees.false) in
    let r = c.in_ok-args.ensures.gives in
    behind _ _ _ _ _ _ c.applied-2.result (omega (arith, g.2, r.2)) (rw (g.4, some, r.4) refl) (c.applied-2.ensures.gives g.0 r.0 (name_later c.in_ok-gate.ensures.sound c.in_ok-args.ensures.grown c.in_ok-gate.gate g.0 g.1) r.1)

pub returns-clause-grown : goal.returns-clause-grown
returns-clause-grown c =
    on_ok_weaker c.applied-2.result (grown_on (grown_on c.in_ok-gate.ensures.grown c.in_ok-args.ensures.grown)) c.applied-2.ensures.grown
