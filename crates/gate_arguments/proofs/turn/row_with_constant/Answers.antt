use Rattle.std.proofs.Common.{◌+ℤ◌, ◌-ℤ◌, ◌*ℤ◌, Ok, ap, sym, subst, ◌∙◌}
use Rattle.std.specs.Prelude.{int_div}
use Rattle.std.proofs.lemmas.Result.{err_from_is_err_and}
use Rattle.const_eval.specs.Answers.{Fails}
use Rattle.const_eval.specs.Refusing.{go_on}
use Rattle.const_eval.specs.Seen.{constant_of}
use Rattle.gate_lists.specs.Units.{word_of}
use Rattle.gate_arguments.specs.Scope.{turn_of}
use Rattle.gate_arguments.specs.Rows.{divisor_beside}
use Rattle.gate_arguments.proofs.Parts.{same_divisor, same_units, same_whole}
use Rattle.gate_arguments.proofs.TurnRows.{go_fails, sum_with_constant, difference_with_constant, product_with_constant, quotient_with_constant}
use Rattle.gate_arguments.proofs.turn.row_with_constant.Goals as goal

pub returns-in_ok-units-in-Add-clause-answer : goal.returns-in_ok-units-in-Add-clause-answer
returns-in_ok-units-in-Add-clause-answer c = λ worths. rw c.in-Add.is
    (sum_with_constant c.args.operator.at c.args.operator.left c.args.operator.right (worths c.args.a) c.args.b.now ∙ ap (λ r. go_on r (λ z. Ok (turn_of (word_of (worths c.args.a) +ℤ z)))) c.in_ok-units-in-Add.ensures.answer
    ∙ ap (λ z. Ok (turn_of (word_of (worths c.args.a) +ℤ z))) (sym (same_units c.in_ok-units-in-Add.units c.in_ok-units-in-Add.ensures.bounded)))

pub returns-in_ok-units-in-Subtract-clause-answer : goal.returns-in_ok-units-in-Subtract-clause-answer
returns-in_ok-units-in-Subtract-clause-answer c = λ worths. rw c.in-Subtract.is
    (difference_with_constant c.args.operator.at c.args.operator.left c.args.operator.right (worths c.args.a) c.args.b.now ∙ ap (λ r. go_on r (λ z. Ok (turn_of (word_of (worths c.args.a) -ℤ z)))) c.in_ok-units-in-Subtract.ensures.answer
    ∙ ap (λ z. Ok (turn_of (word_of (worths c.args.a) -ℤ z))) (sym (same_units c.in_ok-units-in-Subtract.units c.in_ok-units-in-Subtract.ensures.bounded)))

pub returns-in_ok-number_beside-in-Multiply-clause-answer : goal.returns-in_ok-number_beside-in-Multiply-clause-answer
returns-in_ok-number_beside-in-Multiply-clause-answer c = λ worths. rw c.in-Multiply.is
    (product_with_constant c.args.operator.at c.args.operator.left c.args.operator.right (worths c.args.a) c.args.b.now ∙ ap (λ r. go_on r (λ z. Ok (turn_of (word_of (worths c.args.a) *ℤ z)))) c.in_ok-number_beside-in-Multiply.ensures.answer
    ∙ ap (λ z. Ok (turn_of (word_of (worths c.args.a) *ℤ z))) (sym (same_whole c.in_ok-number_beside-in-Multiply.field-0 c.in_ok-number_beside-in-Multiply.ensures.whole)))

pub returns-in_ok-divisor-in-Divide-clause-answer : goal.returns-in_ok-divisor-in-Divide-clause-answer
returns-in_ok-divisor-in-Divide-clause-answer c = λ worths. rw c.in-Divide.is
    (quotient_with_constant c.args.operator.at c.args.operator.left c.args.operator.right (worths c.args.a) c.args.b.now ∙ ap (λ r. go_on r (λ z. Ok (turn_of (int_div (word_of (worths c.args.a)) z)))) c.in_ok-divisor-in-Divide.ensures.answer
    ∙ ap (λ z. Ok (turn_of (int_div (word_of (worths c.args.a)) z))) (sym (same_divisor c.in_ok-divisor-in-Divide.divisor c.in_ok-divisor-in-Divide.ensures.least c.in_ok-divisor-in-Divide.ensures.greatest)))

pub returns-in_err-divisor-in-Divide-clause-answer : goal.returns-in_err-divisor-in-Divide-clause-answer
returns-in_err-divisor-in-Divide-clause-answer c =
    let p = err_from_is_err_and c.from_residual-in_err-divisor-in-Divide.result c.from_residual-in_err-divisor-in-Divide.ensures.1 in
    λ worths. rw (p.1, p.2, c.in-Divide.is) (subst (λ r. Fails c.in_err-divisor-in-Divide.field-0.0 r) (sym (quotient_with_constant c.args.operator.at c.args.operator.left c.args.operator.right (worths c.args.a) c.args.b.now))
    (go_fails c.in_err-divisor-in-Divide.field-0.0 (divisor_beside c.args.operator.at c.args.operator.right (constant_of c.args.b.now)) (λ z. Ok (turn_of (int_div (word_of (worths c.args.a)) z))) c.in_err-divisor-in-Divide.ensures.answer))
