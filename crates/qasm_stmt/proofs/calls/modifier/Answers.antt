use Rattle.std.proofs.Common.{true, false, drop, le_refl, refl, sym, ap, ◌∙◌, arith}
use Rattle.qasm_lexer.specs.declared.token.Keyword.TheVariants as k
use Rattle.qasm_lexer.specs.declared.token.Mark.TheVariants as m
use Rattle.qasm_ast.specs.Tree.{absent, present, inverse, power, control}
use Rattle.qasm_expr.specs.TokenKinds.{keyword_kind, mark_kind}
use Rattle.qasm_expr.proofs.Places.{heads_sign}
use Rattle.qasm_grammar.specs.Reader.{read_modifier}
use Rattle.qasm_stmt.proofs.Growing.{grown_same}
use Rattle.qasm_expr.proofs.Exits.{handed}
use Rattle.qasm_stmt.proofs.calls.modifier.Goals as goal

pub returns-then-sees_word-clause-gives : goal.returns-then-sees_word-clause-gives
unfolding read_modifier
returns-then-sees_word-clause-gives c =
    let inv = heads_sign c.args.text.now (keyword_kind k.Inv) (drop c.args.from c.args.tokens.now) true (omega arith) (sym c.sees_word.ensures.value ∙ c.if-sees_word.true) in
    let w = c.in_ok-place.ensures.gives in
    (inverse w.0.at, (tt, ap inverse w.1), w.2, w.3, rw (inv, w.4) refl)

pub returns-then-sees_word-clause-grown : goal.returns-then-sees_word-clause-grown
returns-then-sees_word-clause-grown c = grown_same _

pub returns-in_err-exponent-clause-gives : goal.returns-in_err-exponent-clause-gives
unfolding read_modifier
returns-in_err-exponent-clause-gives c =
    let inv = heads_sign c.args.text.now (keyword_kind k.Inv) (drop c.args.from c.args.tokens.now) false (omega arith) (sym c.sees_word.ensures.value ∙ c.if-sees_word.false) in
    let pow = heads_sign c.args.text.now (keyword_kind k.Pow) (drop c.args.from c.args.tokens.now) true (omega arith) (sym c.sees_word-2.ensures.value ∙ c.if-sees_word-2.true) in
    let w = c.in_ok-place-2.ensures.gives in
    handed _ _ _ _ c.from_residual-in_err-exponent.ensures c.in_err-exponent.ensures.gives w.2 (λ e h. rw (inv, pow, w.4, h) refl)

pub returns-then-sees_word-2-clause-gives : goal.returns-then-sees_word-2-clause-gives
unfolding read_modifier
returns-then-sees_word-2-clause-gives c =
    let inv = heads_sign c.args.text.now (keyword_kind k.Inv) (drop c.args.from c.args.tokens.now) false (omega arith) (sym c.sees_word.ensures.value ∙ c.if-sees_word.false) in
    let pow = heads_sign c.args.text.now (keyword_kind k.Pow) (drop c.args.from c.args.tokens.now) true (omega arith) (sym c.sees_word-2.ensures.value ∙ c.if-sees_word-2.true) in
    let w = c.in_ok-place-2.ensures.gives in
    let r = c.in_ok-exponent.ensures.gives in
    (power r.0 w.0.at, (r.1.0, rw (r.1.1, w.1) refl), omega (arith, w.2, r.2), r.3, rw (inv, pow, w.4, r.4) refl)

pub returns-in_err-place-3-clause-gives : goal.returns-in_err-place-3-clause-gives
unfolding read_modifier
returns-in_err-place-3-clause-gives c =
    let inv = heads_sign c.args.text.now (keyword_kind k.Inv) (drop c.args.from c.args.tokens.now) false (omega arith) (sym c.sees_word.ensures.value ∙ c.if-sees_word.false) in
    let pow = heads_sign c.args.text.now (keyword_kind k.Pow) (drop c.args.from c.args.tokens.now) false (omega arith) (sym c.sees_word-2.ensures.value ∙ c.if-sees_word-2.false) in
    handed _ _ _ _ c.from_residual-in_err-place-3.ensures c.in_err-place-3.ensures.gives (le_refl _) (λ e h. rw (inv, pow, h) refl)

pub returns-then-not-sees-clause-gives : goal.returns-then-not-sees-clause-gives
unfolding read_modifier
returns-then-not-sees-clause-gives c =
    let inv = heads_sign c.args.text.now (keyword_kind k.Inv) (drop c.args.from c.args.tokens.now) false (omega arith) (sym c.sees_word.ensures.value ∙ c.if-sees_word.false) in
    let pow = heads_sign c.args.text.now (keyword_kind k.Pow) (drop c.args.from c.args.tokens.now) false (omega arith) (sym c.sees_word-2.ensures.value ∙ c.if-sees_word-2.false) in
    let w = c.in_ok-place-3.ensures.gives in
    let none = heads_sign c.args.text.now (mark_kind m.LeftParen) (drop c.in_ok-place-3.at c.args.tokens.now) false (omega arith) (sym c.sees.ensures.value ∙ c.if-not-sees.true) in
    (control absent w.0.at, (tt, ap (control absent) w.1), w.2, w.3, rw (inv, pow, w.4, none) refl)

pub returns-then-not-sees-clause-grown : goal.returns-then-not-sees-clause-grown
returns-then-not-sees-clause-grown c = grown_same _

pub returns-in_err-count-clause-gives : goal.returns-in_err-count-clause-gives
unfolding read_modifier
returns-in_err-count-clause-gives c =
    let inv = heads_sign c.args.text.now (keyword_kind k.Inv) (drop c.args.from c.args.tokens.now) false (omega arith) (sym c.sees_word.ensures.value ∙ c.if-sees_word.false) in
    let pow = heads_sign c.args.text.now (keyword_kind k.Pow) (drop c.args.from c.args.tokens.now) false (omega arith) (sym c.sees_word-2.ensures.value ∙ c.if-sees_word-2.false) in
    let w = c.in_ok-place-3.ensures.gives in
    let some = heads_sign c.args.text.now (mark_kind m.LeftParen) (drop c.in_ok-place-3.at c.args.tokens.now) true (omega arith) (sym c.sees.ensures.value ∙ c.if-not-sees.false) in
    handed _ _ _ _ c.from_residual-in_err-count.ensures c.in_err-count.ensures.gives w.2 (λ e h. rw (inv, pow, w.4, some, h) refl)

pub returns-clause-gives : goal.returns-clause-gives
unfolding read_modifier
returns-clause-gives c =
    let inv = heads_sign c.args.text.now (keyword_kind k.Inv) (drop c.args.from c.args.tokens.now) false (omega arith) (sym c.sees_word.ensures.value ∙ c.if-sees_word.false) in
    let pow = heads_sign c.args.text.now (keyword_kind k.Pow) (drop c.args.from c.args.tokens.now) false (omega arith) (sym c.sees_word-2.ensures.value ∙ c.if-sees_word-2.false) in
    let w = c.in_ok-place-3.ensures.gives in
    let some = heads_sign c.args.text.now (mark_kind m.LeftParen) (drop c.in_ok-place-3.at c.args.tokens.now) true (omega arith) (sym c.sees.ensures.value ∙ c.if-not-sees.false) in
    let r = c.in_ok-count.ensures.gives in
    (control (present r.0) w.0.at, (r.1.0, rw (r.1.1, w.1) refl), omega (arith, w.2, r.2), r.3, rw (inv, pow, w.4, some, r.4) refl)
