use Rattle.std.proofs.Common.{◌+ℤ◌, ◌-ℤ◌, ◌*ℤ◌, Ok, ap, sym, ◌∙◌}
use Rattle.const_eval.specs.Refusing.{go_on}
use Rattle.gate_lists.specs.Units.{word_of}
use Rattle.gate_arguments.specs.Scope.{turn_of}
use Rattle.gate_arguments.proofs.Parts.{same_units, same_whole}
use Rattle.gate_arguments.proofs.TurnRows.{sum_behind_constant, difference_behind_constant, product_behind_constant}
use Rattle.gate_arguments.proofs.turn.row_behind_constant.Goals as goal

pub returns-in_ok-units-in-Add-clause-answer : goal.returns-in_ok-units-in-Add-clause-answer
returns-in_ok-units-in-Add-clause-answer c = λ worths. rw c.in-Add.is
    (sum_behind_constant c.args.operator.at c.args.operator.left c.args.operator.right (worths c.args.b) c.args.a.now ∙ ap (λ r. go_on r (λ z. Ok (turn_of (z +ℤ word_of (worths c.args.b))))) c.in_ok-units-in-Add.ensures.answer
    ∙ ap (λ z. Ok (turn_of (z +ℤ word_of (worths c.args.b)))) (sym (same_units c.in_ok-units-in-Add.units c.in_ok-units-in-Add.ensures.bounded)))

pub returns-in_ok-units-in-Subtract-clause-answer : goal.returns-in_ok-units-in-Subtract-clause-answer
returns-in_ok-units-in-Subtract-clause-answer c = λ worths. rw c.in-Subtract.is
    (difference_behind_constant c.args.operator.at c.args.operator.left c.args.operator.right (worths c.args.b) c.args.a.now ∙ ap (λ r. go_on r (λ z. Ok (turn_of (z -ℤ word_of (worths c.args.b))))) c.in_ok-units-in-Subtract.ensures.answer
    ∙ ap (λ z. Ok (turn_of (z -ℤ word_of (worths c.args.b)))) (sym (same_units c.in_ok-units-in-Subtract.units c.in_ok-units-in-Subtract.ensures.bounded)))

pub returns-in_ok-number_beside-in-Multiply-clause-answer : goal.returns-in_ok-number_beside-in-Multiply-clause-answer
returns-in_ok-number_beside-in-Multiply-clause-answer c = λ worths. rw c.in-Multiply.is
    (product_behind_constant c.args.operator.at c.args.operator.left c.args.operator.right (worths c.args.b) c.args.a.now ∙ ap (λ r. go_on r (λ z. Ok (turn_of (word_of (worths c.args.b) *ℤ z)))) c.in_ok-number_beside-in-Multiply.ensures.answer
    ∙ ap (λ z. Ok (turn_of (word_of (worths c.args.b) *ℤ z))) (sym (same_whole c.in_ok-number_beside-in-Multiply.field-0 c.in_ok-number_beside-in-Multiply.ensures.whole)))
