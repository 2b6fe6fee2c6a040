use Rattle.std.proofs.Common.{Some, None, false, drop, refl, sym, ap, ◌∙◌, lit<, le_refl, arith}
use Rattle.qasm_lexer.specs.declared.token.Mark.TheVariants as m
use Rattle.qasm_ast.specs.Tree.{Operand, assign, expression}
use Rattle.qasm_expr.specs.TokenKinds.{mark_kind}
use Rattle.qasm_expr.proofs.Operands.{none_picked}
use Rattle.qasm_expr.proofs.Places.{heads_sign}
use Rattle.qasm_grammar.specs.Grammar.{assign_operators, at_one}
use Rattle.qasm_grammar.specs.Reader.{read_assigned}
use Rattle.qasm_stmt.proofs.Growing.{operand_later}
use Rattle.qasm_expr.proofs.Exits.{handed, handed_mark}
use Rattle.qasm_stmt.proofs.Lines.{line_shows, mark_seen, picked_seen}
use Rattle.qasm_stmt.proofs.actions.assigned.Goals as goal

pub returns-in_err-found-clause-gives : goal.returns-in_err-found-clause-gives
unfolding read_assigned
returns-in_err-found-clause-gives c = λ o h.
    let s = mark_seen c.args.text.now c.args.tokens.now c.args.from (mark_kind m.Assign) (lit< tt) c.requires.within (sym c.sees.ensures.value ∙ c.if-sees.true) in
    handed _ _ _ _ c.from_residual.ensures c.in_err-found.ensures.gives (omega arith) (λ x h. rw (s.1, s.3, h) refl)

pub returns-in_err-next-clause-gives : goal.returns-in_err-next-clause-gives
unfolding read_assigned
returns-in_err-next-clause-gives c = λ o h.
    let s = mark_seen c.args.text.now c.args.tokens.now c.args.from (mark_kind m.Assign) (lit< tt) c.requires.within (sym c.sees.ensures.value ∙ c.if-sees.true) in
    let v = c.in_ok-found.ensures.gives in
    handed_mark _ _ _ _ c.from_residual-in_err-next.ensures c.in_err-next.ensures (omega arith) v.3 (λ x h. rw (s.1, s.3, v.4, h) refl)

pub returns-then-sees-clause-gives : goal.returns-then-sees-clause-gives
unfolding read_assigned
returns-then-sees-clause-gives c = λ o h.
    let s = mark_seen c.args.text.now c.args.tokens.now c.args.from (mark_kind m.Assign) (lit< tt) c.requires.within (sym c.sees.ensures.value ∙ c.if-sees.true) in
    let v = c.in_ok-found.ensures.gives in
    let k = c.in_ok-next.ensures in
    let o2 = operand_later c.requires.sound c.in_ok-found.ensures.grown _ _ h in
    let place = ap (λ (y : Operand). y.place) h.1 in
    (at_one (assign o None v.0) o.place, line_shows c.value.new.arena _ _ _ _ c.line.ensures ((o2.0, tt, v.1.0), rw (o2.1, v.1.1, place) refl), omega arith, k.2, rw (s.1, s.3, v.4, k.4) refl)

pub returns-in_default-clause-gives : goal.returns-in_default-clause-gives
unfolding read_assigned
returns-in_default-clause-gives c = λ o h.
    let shut = heads_sign c.args.text.now (mark_kind m.Assign) (drop c.args.from c.args.tokens.now) false (lit< tt) (sym c.sees.ensures.value ∙ c.if-sees.false) in
    (le_refl _, c.requires.within, rw (shut, none_picked c.args.text.now assign_operators (drop c.args.from c.args.tokens.now) (sym c.assigning_operator.ensures.value ∙ c.in_default.is)) refl)

pub returns-in_err-found-2-clause-gives : goal.returns-in_err-found-2-clause-gives
unfolding read_assigned
returns-in_err-found-2-clause-gives c = λ o h.
    let shut = heads_sign c.args.text.now (mark_kind m.Assign) (drop c.args.from c.args.tokens.now) false (lit< tt) (sym c.sees.ensures.value ∙ c.if-sees.false) in
    let p = picked_seen c.args.text.now assign_operators c.args.tokens.now c.args.from c.in-Some.op c.requires.within refl (sym c.assigning_operator.ensures.value ∙ c.in-Some.is) in
    handed _ _ _ _ c.from_residual-in_err-found-2.ensures c.in_err-found-2.ensures.gives (omega arith) (λ x h. rw (shut, p.2, h) refl)

pub returns-in_err-next-2-clause-gives : goal.returns-in_err-next-2-clause-gives
unfolding read_assigned
returns-in_err-next-2-clause-gives c = λ o h.
    let shut = heads_sign c.args.text.now (mark_kind m.Assign) (drop c.args.from c.args.tokens.now) false (lit< tt) (sym c.sees.ensures.value ∙ c.if-sees.false) in
    let p = picked_seen c.args.text.now assign_operators c.args.tokens.now c.args.from c.in-Some.op c.requires.within refl (sym c.assigning_operator.ensures.value ∙ c.in-Some.is) in
    let e = c.in_ok-found-2.ensures.gives in
    handed_mark _ _ _ _ c.from_residual-in_err-next-2.ensures c.in_err-next-2.ensures (omega arith) e.3 (λ x h. rw (shut, p.2, e.4, h) refl)

pub returns-clause-gives : goal.returns-clause-gives
unfolding read_assigned
returns-clause-gives c = λ o h.
    let shut = heads_sign c.args.text.now (mark_kind m.Assign) (drop c.args.from c.args.tokens.now) false (lit< tt) (sym c.sees.ensures.value ∙ c.if-sees.false) in
    let p = picked_seen c.args.text.now assign_operators c.args.tokens.now c.args.from c.in-Some.op c.requires.within refl (sym c.assigning_operator.ensures.value ∙ c.in-Some.is) in
    let e = c.in_ok-found-2.ensures.gives in
    let k = c.in_ok-next-2.ensures in
    let o2 = operand_later c.requires.sound c.in_ok-found-2.ensures.grown _ _ h in
    let place = ap (λ (y : Operand). y.place) h.1 in
    (at_one (assign o (Some c.in-Some.op) (expression e.0)) o.place, line_shows c.expression.new.arena _ _ _ _ c.line-2.ensures ((o2.0, tt, e.1.0), rw (o2.1, e.1.1, place) refl), omega arith, k.2, rw (shut, p.2, e.4, k.4) refl)
