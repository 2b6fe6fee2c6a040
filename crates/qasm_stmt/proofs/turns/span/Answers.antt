use Rattle.std.proofs.Common.{◌+◌, true, false, drop, le_refl, refl, sym, ap, ◌∙◌, arith}
use Rattle.qasm_lexer.specs.declared.token.Mark.TheVariants as m
use Rattle.qasm_ast.specs.Tree.{absent, present}
use Rattle.qasm_expr.specs.TokenKinds.{mark_kind}
use Rattle.qasm_expr.proofs.Places.{heads_sign, passes_yes}
use Rattle.qasm_grammar.specs.Parts.{over_range}
use Rattle.qasm_grammar.specs.Reader.{read_span, read_behind_second}
use Rattle.qasm_stmt.proofs.Growing.{grown_on, tree_later}
use Rattle.qasm_expr.proofs.Exits.{handed, handed_mark}
use Rattle.qasm_stmt.proofs.Showing.{inner_at}
use Rattle.qasm_stmt.proofs.turns.span.Goals as goal

pub returns-in_err-inside-clause-gives : goal.returns-in_err-inside-clause-gives
unfolding read_span
returns-in_err-inside-clause-gives c =
    handed_mark _ _ _ _ c.from_residual.ensures c.in_err-inside.ensures.passes (le_refl _) c.requires.within (λ e h. rw h refl)

pub returns-in_err-start-clause-gives : goal.returns-in_err-start-clause-gives
unfolding read_span
returns-in_err-start-clause-gives c =
    let o = c.in_ok-inside.ensures.passes in
    let inner = inner_at c.args.text.now c.args.room c.in_ok-inside.ensures.has_room in
    handed _ _ _ _ c.from_residual-in_err-start.ensures c.in_err-start.ensures.gives (omega (arith, o.1)) (λ e h. rw (o.4, ap (λ r. r (drop c.in_ok-inside.inside c.args.tokens.now)) inner, h) refl)

pub returns-in_err-at-clause-gives : goal.returns-in_err-at-clause-gives
unfolding read_span
returns-in_err-at-clause-gives c =
    let o = c.in_ok-inside.ensures.passes in
    let inner = inner_at c.args.text.now c.args.room c.in_ok-inside.ensures.has_room in
    let r = c.in_ok-start.ensures.gives in
    handed_mark _ _ _ _ c.from_residual-in_err-at.ensures c.in_err-at.ensures (omega (arith, o.1, r.2)) r.3 (λ e h. rw (o.4, ap (λ r. r (drop c.in_ok-inside.inside c.args.tokens.now)) inner, r.4, h) refl)

pub returns-in_err-second-clause-gives : goal.returns-in_err-second-clause-gives
unfolding read_span
returns-in_err-second-clause-gives c =
    let o = c.in_ok-inside.ensures.passes in
    let inner = inner_at c.args.text.now c.args.room c.in_ok-inside.ensures.has_room in
    let r = c.in_ok-start.ensures.gives in
    let k = c.in_ok-at.ensures in
    handed _ _ _ _ c.from_residual-in_err-second.ensures c.in_err-second.ensures.gives (omega (arith, o.1, r.2, k.1)) (λ e h. rw (o.4, ap (λ r. r (drop c.in_ok-inside.inside c.args.tokens.now)) inner, r.4, k.4, ap (λ r. r (drop c.in_ok-at.at c.args.tokens.now)) inner, h) refl)

pub returns-in_err-at-2-clause-gives : goal.returns-in_err-at-2-clause-gives
unfolding read_span read_behind_second
returns-in_err-at-2-clause-gives c =
    let o = c.in_ok-inside.ensures.passes in
    let inner = inner_at c.args.text.now c.args.room c.in_ok-inside.ensures.has_room in
    let r = c.in_ok-start.ensures.gives in
    let k = c.in_ok-at.ensures in
    let s = c.in_ok-second.ensures.gives in
    let end = heads_sign c.args.text.now (mark_kind m.Colon) (drop c.in_ok-second.at c.args.tokens.now) false (omega arith) (sym c.sees.ensures.value ∙ c.if-not-sees.true) in
    handed_mark _ _ _ _ c.from_residual-in_err-at-2.ensures c.in_err-at-2.ensures (omega (arith, o.1, r.2, k.1, s.2)) s.3 (λ e h. rw (o.4, ap (λ r. r (drop c.in_ok-inside.inside c.args.tokens.now)) inner, r.4, k.4, ap (λ r. r (drop c.in_ok-at.at c.args.tokens.now)) inner, s.4, end, h) refl)

pub returns-then-not-sees-clause-gives : goal.returns-then-not-sees-clause-gives
unfolding read_span read_behind_second
returns-then-not-sees-clause-gives c =
    let o = c.in_ok-inside.ensures.passes in
    let inner = inner_at c.args.text.now c.args.room c.in_ok-inside.ensures.has_room in
    let r = c.in_ok-start.ensures.gives in
    let k = c.in_ok-at.ensures in
    let s = c.in_ok-second.ensures.gives in
    let end = heads_sign c.args.text.now (mark_kind m.Colon) (drop c.in_ok-second.at c.args.tokens.now) false (omega arith) (sym c.sees.ensures.value ∙ c.if-not-sees.true) in
    let d = c.in_ok-at-2.ensures in
    let first = tree_later c.in_ok-start.ensures.sound c.in_ok-second.ensures.grown c.in_ok-start.start r.0 r.1 in
    (over_range r.0 absent s.0, (first, (tt, refl), s.1), omega (arith, o.1, r.2, k.1, s.2, d.1), d.2, rw (o.4, ap (λ r. r (drop c.in_ok-inside.inside c.args.tokens.now)) inner, r.4, k.4, ap (λ r. r (drop c.in_ok-at.at c.args.tokens.now)) inner, s.4, end, d.4) refl)

pub returns-in_err-third-clause-gives : goal.returns-in_err-third-clause-gives
unfolding read_span read_behind_second
returns-in_err-third-clause-gives c =
    let o = c.in_ok-inside.ensures.passes in
    let inner = inner_at c.args.text.now c.args.room c.in_ok-inside.ensures.has_room in
    let r = c.in_ok-start.ensures.gives in
    let k = c.in_ok-at.ensures in
    let s = c.in_ok-second.ensures.gives in
    let seen = sym c.sees.ensures.value ∙ c.if-not-sees.false in
    let more = heads_sign c.args.text.now (mark_kind m.Colon) (drop c.in_ok-second.at c.args.tokens.now) true (omega arith) seen in
    let p = passes_yes c.args.text.now c.args.tokens.now c.in_ok-second.at (mark_kind m.Colon) (omega arith) s.3 seen in
    handed _ _ _ _ c.from_residual-in_err-third.ensures c.in_err-third.ensures.gives (omega (arith, o.1, r.2, k.1, s.2)) (λ e h. rw (o.4, ap (λ r. r (drop c.in_ok-inside.inside c.args.tokens.now)) inner, r.4, k.4, ap (λ r. r (drop c.in_ok-at.at c.args.tokens.now)) inner, s.4, more, p.4, ap (λ r. r (drop (c.in_ok-second.at + 1) c.args.tokens.now)) inner, h) refl)

pub returns-in_err-at-3-clause-gives : goal.returns-in_err-at-3-clause-gives
unfolding read_span read_behind_second
returns-in_err-at-3-clause-gives c =
    let o = c.in_ok-inside.ensures.passes in
    let inner = inner_at c.args.text.now c.args.room c.in_ok-inside.ensures.has_room in
    let r = c.in_ok-start.ensures.gives in
    let k = c.in_ok-at.ensures in
    let s = c.in_ok-second.ensures.gives in
    let seen = sym c.sees.ensures.value ∙ c.if-not-sees.false in
    let more = heads_sign c.args.text.now (mark_kind m.Colon) (drop c.in_ok-second.at c.args.tokens.now) true (omega arith) seen in
    let p = passes_yes c.args.text.now c.args.tokens.now c.in_ok-second.at (mark_kind m.Colon) (omega arith) s.3 seen in
    let u = c.in_ok-third.ensures.gives in
    handed_mark _ _ _ _ c.from_residual-in_err-at-3.ensures c.in_err-at-3.ensures (omega (arith, o.1, r.2, k.1, s.2, u.2)) u.3 (λ e h. rw (o.4, ap (λ r. r (drop c.in_ok-inside.inside c.args.tokens.now)) inner, r.4, k.4, ap (λ r. r (drop c.in_ok-at.at c.args.tokens.now)) inner, s.4, more, p.4, ap (λ r. r (drop (c.in_ok-second.at + 1) c.args.tokens.now)) inner, u.4, h) refl)

pub returns-clause-gives : goal.returns-clause-gives
unfolding read_span read_behind_second
returns-clause-gives c =
    let o = c.in_ok-inside.ensures.passes in
    let inner = inner_at c.args.text.now c.args.room c.in_ok-inside.ensures.has_room in
    let r = c.in_ok-start.ensures.gives in
    let k = c.in_ok-at.ensures in
    let s = c.in_ok-second.ensures.gives in
    let seen = sym c.sees.ensures.value ∙ c.if-not-sees.false in
    let more = heads_sign c.args.text.now (mark_kind m.Colon) (drop c.in_ok-second.at c.args.tokens.now) true (omega arith) seen in
    let p = passes_yes c.args.text.now c.args.tokens.now c.in_ok-second.at (mark_kind m.Colon) (omega arith) s.3 seen in
    let u = c.in_ok-third.ensures.gives in
    let d = c.in_ok-at-3.ensures in
    let first = tree_later c.in_ok-start.ensures.sound (grown_on c.in_ok-second.ensures.grown c.in_ok-third.ensures.grown) c.in_ok-start.start r.0 r.1 in
    let middle = tree_later c.in_ok-second.ensures.sound c.in_ok-third.ensures.grown c.in_ok-second.second s.0 s.1 in
    (over_range r.0 (present s.0) u.0, (first, (middle.0, ap present middle.1), u.1), omega (arith, o.1, r.2, k.1, s.2, u.2, d.1), d.2, rw (o.4, ap (λ r. r (drop c.in_ok-inside.inside c.args.tokens.now)) inner, r.4, k.4, ap (λ r. r (drop c.in_ok-at.at c.args.tokens.now)) inner, s.4, more, p.4, ap (λ r. r (drop (c.in_ok-second.at + 1) c.args.tokens.now)) inner, u.4, d.4) refl)
