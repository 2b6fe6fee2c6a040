use Rattle.std.proofs.Common.{sym, ap, ◌∙◌, subst, ◌<◌, ◌^◌, arith}
use Rattle.std.specs.Str.Parse.{digits_value_after}
use Rattle.qasm_lexer.specs.Spelling.{digits_of_numeral}
use Rattle.std.specs.Str.{chars}
use Rattle.qasm_lexer.proofs.Cutting.{chars_cut, cut_shorter}
use Rattle.qasm_lexer.proofs.Numerals.{value_digit, value_other, value_end, none_unless, value_passes, product_passes, product_is, added, sum_is}
use Rattle.qasm_lexer.proofs.numbers.value_of.Goals as goal

pub returns-in_err-value : goal.returns-in_err-value
returns-in_err-value c =
    none_unless _ _ _ c.from_residual.ensures (value_passes c.args.base c.loop-first.value c.in-Some.first _ _ _ _ (omega (arith, c.requires.low)) (chars_cut c.in-Some.ensures) c.in-Some-to_digit.ensures.value.0 c.loop-first.invariant.2
    (product_passes c.loop-first.value c.args.base _ _ (product_is c.loop-first.value c.args.base _ _ c.from.ensures c.in_err-value.ensures)))

pub returns-in_err-value-2 : goal.returns-in_err-value-2
returns-in_err-value-2 c =
    none_unless _ _ _ c.from_residual-in_err-value-2.ensures (value_passes c.args.base c.loop-first.value c.in-Some.first _ _ _ _ (omega (arith, c.requires.low)) (chars_cut c.in-Some.ensures) c.in-Some-to_digit.ensures.value.0 c.loop-first.invariant.2
    (sum_is _ _ _ (added c.loop-first.value c.args.base _ _ _ _ _ c.from.ensures c.in_ok-value.ensures.1 c.from-in-Some-to_digit.ensures c.in-Some-to_digit.ensures.value.1) c.in_err-value-2.ensures))

pub loop-first-smaller-in_ok-value-2 : goal.loop-first-smaller-in_ok-value-2
loop-first-smaller-in_ok-value-2 c = cut_shorter c.in-Some.ensures

pub loop-first-preserved-in_ok-value-2 : goal.loop-first-preserved-in_ok-value-2
loop-first-preserved-in_ok-value-2 c =
    let sum = c.in_ok-value-2.ensures.1 ∙ added c.loop-first.value c.args.base _ _ _ _ _ c.from.ensures c.in_ok-value.ensures.1 c.from-in-Some-to_digit.ensures c.in-Some-to_digit.ensures.value.1 in
    (c.in-Some.ensures.rest_utf8, omega (arith, c.in_ok-value-2.ensures), ap (λ n. digits_value_after c.args.base n (digits_of_numeral c.args.base (chars c.in-Some.behind.now))) sum ∙ sym (value_digit c.args.base c.loop-first.value _ _ _ (chars_cut c.in-Some.ensures) c.in-Some-to_digit.ensures.value.0) ∙ c.loop-first.invariant.2)

pub loop-first-smaller : goal.loop-first-smaller
loop-first-smaller c = cut_shorter c.in-Some.ensures

pub loop-first-preserved : goal.loop-first-preserved
loop-first-preserved c =
    (c.in-Some.ensures.rest_utf8, c.loop-first.invariant.1, sym (value_other c.args.base c.loop-first.value _ _ _ (chars_cut c.in-Some.ensures) c.in_default-to_digit.ensures.value) ∙ c.loop-first.invariant.2)

pub returns : goal.returns
returns c =
    let all = sym (value_end c.args.base c.loop-first.value _ c.in_default.ensures) ∙ c.loop-first.invariant.2 in
    (subst (λ n. n < 2 ^ 64) all c.loop-first.invariant.1, all)
