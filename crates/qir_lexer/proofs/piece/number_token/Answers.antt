use Rattle.std.proofs.Common.{◌≡◌, ◌+◌, ◌-◌, ℕ, ℤ, length, take, drop, sym, ap, ◌∙◌, subst}
use Rattle.qir_module.specs.Tokens as t
use Rattle.qir_module.specs.Lexer.{Found, Fails, or_else, number_step}
use Rattle.qir_lexer.proofs.Finding.{rest_is, front_size, front_digits, make_number, front_of, number_bad, number_good, same_word}
use Rattle.qir_lexer.proofs.piece.number_token.Goals as goal
use Rattle.qir_lexer.proofs.piece.number_token.Goals.{then-negative, else-negative}

pub slice_bounds-word_value-end : goal.slice_bounds-word_value-end
slice_bounds-word_value-end c = front_size _ _ c.count_while-count.ensures.count

pub word_value-requires : goal.word_value-requires
word_value-requires c = front_digits _ _ c.count_while-count.ensures.count

pub returns-in_default : goal.returns-in_default
returns-in_default c =
    let skip : c.if-negative.skip ≡ front_of c.args.negative = elim c.if-negative.branch [ then-negative w ↦ w.skip-is ∙ ap front_of (sym w.if-negative.true) | else-negative w ↦ w.skip-is ∙ ap front_of (sym w.if-negative.false) ] in
    number_bad c.args.negative c.count_while-count.result c.args.text.now _ (rest_is c.if-negative.skip c.args.text.now ∙ ap (λ k. drop k c.args.text.now) skip) c.requires.minus c.count_while-count.ensures.count c.if-count-eq0.false c.in_default.ensures

pub returns : goal.returns
returns c =
    let skip : c.if-negative.skip ≡ front_of c.args.negative = elim c.if-negative.branch [ then-negative w ↦ w.skip-is ∙ ap front_of (sym w.if-negative.true) | else-negative w ↦ w.skip-is ∙ ap front_of (sym w.if-negative.false) ] in
    ap (λ (z : ℤ). Found (t.Number z) (c.if-negative.skip + c.count_while-count.result)) (same_word c.args.negative (take c.count_while-count.result (take (length c.args.text.now - c.if-negative.skip) (drop c.if-negative.skip c.args.text.now))) c.in-Some.value c.in-Some.ensures)
    ∙ subst (λ (k : ℕ). Found (t.Number c.in-Some.value) (k + c.count_while-count.result) ≡ or_else (number_step (make_number c.args.negative) (front_of c.args.negative) c.args.text.now) (Fails 2)) (sym skip)
    (number_good c.args.negative c.count_while-count.result c.args.text.now _ (rest_is c.if-negative.skip c.args.text.now ∙ ap (λ k. drop k c.args.text.now) skip) c.requires.minus c.count_while-count.ensures.count c.if-count-eq0.false c.requires.front _ c.in-Some.ensures)
