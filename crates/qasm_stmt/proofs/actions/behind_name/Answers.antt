use Rattle.std.proofs.Common.{[], Some, false, drop, refl, sym, subst, ◌∙◌, lit<, le_refl, arith}
use Rattle.qasm_lexer.specs.declared.token.Mark.TheVariants as m
use Rattle.qasm_ast.specs.Tree.{call, trees, invoke}
use Rattle.qasm_expr.specs.TokenKinds.{mark_kind}
use Rattle.qasm_expr.proofs.Exits.{behind, handed}
use Rattle.qasm_expr.proofs.Places.{heads_sign}
use Rattle.qasm_grammar.specs.Grammar.{at_one}
use Rattle.qasm_grammar.specs.Parts.{declared as named, operand_at, call_statement}
use Rattle.qasm_grammar.specs.Reader.{read_assigned, read_assignment, read_behind_name}
use Rattle.qasm_stmt.specs.Seen.{IsList, IsTree, IsLine}
use Rattle.qasm_stmt.proofs.Calling.{target_shows, call_shows, with_call, with_call_sound, invoke_shows}
use Rattle.qasm_stmt.proofs.Growing.{name_later}
use Rattle.qasm_stmt.proofs.Lines.{line_shows, mark_seen}
use Rattle.qasm_stmt.proofs.actions.behind_name.Goals as goal

pub returns-in_err-index-clause-gives : goal.returns-in_err-index-clause-gives
unfolding read_behind_name read_assignment
returns-in_err-index-clause-gives c = λ x h.
    let begun = sym c.begins_assignment.ensures ∙ c.if-begins_assignment.true in
    handed _ _ _ _ c.from_residual.ensures c.in_err-index.ensures.gives (le_refl _) (λ y k. rw (begun, k) refl)

pub returns-then-begins_assignment-clause-gives : goal.returns-then-begins_assignment-clause-gives
unfolding read_behind_name read_assignment
returns-then-begins_assignment-clause-gives c = λ x h.
    let begun = sym c.begins_assignment.ensures ∙ c.if-begins_assignment.true in
    let is = c.in_ok-index.ensures.gives in
    let n = name_later c.requires.sound c.in_ok-index.ensures.grown _ _ h in
    behind (IsLine c.assigned.new.arena) c.args.tokens.now c.args.from c.in_ok-index.next _ (read_assigned c.args.text.now (Some 64) c.args.room (operand_at x is.0) (drop c.in_ok-index.next c.args.tokens.now)) c.assigned.result is.2 (rw (begun, is.4) refl) (c.assigned.ensures.gives (operand_at x is.0) (target_shows c.brackets.new.arena _ _ _ _ n is.1))

pub returns-in_err-found-clause-gives : goal.returns-in_err-found-clause-gives
unfolding read_behind_name
returns-in_err-found-clause-gives c = λ x h.
    let no = sym c.begins_assignment.ensures ∙ c.if-begins_assignment.false in
    let shut = heads_sign c.args.text.now (mark_kind m.LeftParen) (drop c.args.from c.args.tokens.now) false (lit< tt) (sym c.sees.ensures.value ∙ c.if-not-sees.true) in
    let none = subst (λ l. IsList (IsTree c.args.arena.now) l []) (sym c.new.ensures.items) (omega arith, tt) in
    handed _ _ _ _ c.from_residual-in_err-found.ensures (c.in_err-found.ensures.gives (named x) [] h none) (le_refl _) (λ y k. rw (no, shut, k) refl)

pub returns-then-not-sees-clause-gives : goal.returns-then-not-sees-clause-gives
unfolding read_behind_name
returns-then-not-sees-clause-gives c = λ x h.
    let no = sym c.begins_assignment.ensures ∙ c.if-begins_assignment.false in
    let shut = heads_sign c.args.text.now (mark_kind m.LeftParen) (drop c.args.from c.args.tokens.now) false (lit< tt) (sym c.sees.ensures.value ∙ c.if-not-sees.true) in
    let none = subst (λ l. IsList (IsTree c.args.arena.now) l []) (sym c.new.ensures.items) (omega arith, tt) in
    let k = c.in_ok-found.ensures.gives (named x) [] h none in
    (call_statement k.0, line_shows c.applied.new.arena _ _ _ _ c.statement.ensures (call_shows c.applied.new.arena c.in_ok-found.found k.0 k.1), k.2, k.3, rw (no, shut, k.4) refl)

pub returns-in_err-args-clause-gives : goal.returns-in_err-args-clause-gives
unfolding read_behind_name
returns-in_err-args-clause-gives c = λ x h.
    let no = sym c.begins_assignment.ensures ∙ c.if-begins_assignment.false in
    let s = mark_seen c.args.text.now c.args.tokens.now c.args.from (mark_kind m.LeftParen) (lit< tt) c.requires.within (sym c.sees.ensures.value ∙ c.if-not-sees.false) in
    handed _ _ _ _ c.from_residual-in_err-args.ensures c.in_err-args.ensures.gives (le_refl _) (λ y k. rw (no, s.1, k) refl)

pub returns-then-sees-clause-gives : goal.returns-then-sees-clause-gives
unfolding read_behind_name
returns-then-sees-clause-gives c = λ x h.
    let no = sym c.begins_assignment.ensures ∙ c.if-begins_assignment.false in
    let s = mark_seen c.args.text.now c.args.tokens.now c.args.from (mark_kind m.LeftParen) (lit< tt) c.requires.within (sym c.sees.ensures.value ∙ c.if-not-sees.false) in
    let es = c.in_ok-args.ensures.gives in
    let n = name_later c.requires.sound c.in_ok-args.ensures.grown _ _ h in
    let d = mark_seen c.args.text.now c.args.tokens.now c.in_ok-args.next (mark_kind m.Semicolon) (lit< tt) es.3 (sym c.sees-2.ensures.value ∙ c.if-sees.true) in
    let line = invoke_shows c.arguments.new.arena c.in_ok-args.ensures.sound c.args.name c.in_ok-args.args.items es.0 c.add.new.nodes n.0 es.1 c.in_ok-call.ensures.items x n c.in_ok-call.call c.in_ok-call.ensures.id in
    (at_one (invoke (call x.0 (trees es.0) x.1)) x.1, line_shows (with_call c.arguments.new.arena c.in_ok-args.ensures.sound c.args.name c.in_ok-args.args.items es.0 c.add.new.nodes n.0 es.1 c.in_ok-call.ensures.items) _ _ _ _ c.line.ensures line, omega arith, d.2, rw (no, s.1, es.4, d.1, d.3) refl)

pub returns-then-sees-clause-sound : goal.returns-then-sees-clause-sound
returns-then-sees-clause-sound c =
    let es = c.in_ok-args.ensures.gives in
    let n = name_later c.requires.sound c.in_ok-args.ensures.grown c.args.name _ (c.requires.known, refl) in
    with_call_sound c.arguments.new.arena c.in_ok-args.ensures.sound c.args.name c.in_ok-args.args.items es.0 c.add.new.nodes n.0 es.1 c.in_ok-call.ensures.items

pub returns-in_err-found-2-clause-gives : goal.returns-in_err-found-2-clause-gives
unfolding read_behind_name
returns-in_err-found-2-clause-gives c = λ x h.
    let no = sym c.begins_assignment.ensures ∙ c.if-begins_assignment.false in
    let s = mark_seen c.args.text.now c.args.tokens.now c.args.from (mark_kind m.LeftParen) (lit< tt) c.requires.within (sym c.sees.ensures.value ∙ c.if-not-sees.false) in
    let es = c.in_ok-args.ensures.gives in
    let n = name_later c.requires.sound c.in_ok-args.ensures.grown _ _ h in
    let shut = heads_sign c.args.text.now (mark_kind m.Semicolon) (drop c.in_ok-args.next c.args.tokens.now) false (lit< tt) (sym c.sees-2.ensures.value ∙ c.if-sees.false) in
    handed _ _ _ _ c.from_residual-in_err-found-2.ensures (c.in_err-found-2.ensures.gives (named x) es.0 n es.1) es.2 (λ y k. rw (no, s.1, es.4, shut, k) refl)

pub returns-clause-gives : goal.returns-clause-gives
unfolding read_behind_name
returns-clause-gives c = λ x h.
    let no = sym c.begins_assignment.ensures ∙ c.if-begins_assignment.false in
    let s = mark_seen c.args.text.now c.args.tokens.now c.args.from (mark_kind m.LeftParen) (lit< tt) c.requires.within (sym c.sees.ensures.value ∙ c.if-not-sees.false) in
    let es = c.in_ok-args.ensures.gives in
    let n = name_later c.requires.sound c.in_ok-args.ensures.grown _ _ h in
    let shut = heads_sign c.args.text.now (mark_kind m.Semicolon) (drop c.in_ok-args.next c.args.tokens.now) false (lit< tt) (sym c.sees-2.ensures.value ∙ c.if-sees.false) in
    let k = c.in_ok-found-2.ensures.gives (named x) es.0 n es.1 in
    (call_statement k.0, line_shows c.applied-2.new.arena _ _ _ _ c.statement-2.ensures (call_shows c.applied-2.new.arena c.in_ok-found-2.found k.0 k.1), omega arith, k.3, rw (no, s.1, es.4, shut, k.4) refl)
