use Rattle.std.proofs.Common.{◌∙◌, sym}
use Rattle.std.specs.Int.{w128}
use Rattle.std.proofs.lemmas.Int.{to_z-of_z}
use Rattle.const_eval.specs.Numbered.{applied}
use Rattle.const_eval.proofs.NumberRows.{apply-numbers}
use Rattle.const_eval.proofs.numbers.number_result.Goals as goal

pub returns-clause-value : goal.returns-clause-value
returns-clause-value c =
    let plan = c.args.plan in
    let x = c.args.x in
    let y = c.args.y in
    let same_x = to_z-of_z w128 x c.ranges.x in
    let same_y = to_z-of_z w128 y c.ranges.y in
    apply-numbers c.args.op plan.left plan.right plan.result x y c.requires.left c.requires.right
    ∙ (λ i. applied c.args.op plan.result (sym same_x i) (sym same_y i)) ∙ c.applied_number.ensures.value
