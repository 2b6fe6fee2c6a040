use Rattle.std.proofs.Common.{◌∙◌, Err}
use Rattle.std.specs.Int.{w128}
use Rattle.std.proofs.lemmas.Int.{to_z-of_z}
use Rattle.const_eval.proofs.Counting.{part_count_some, part_count_none}
use Rattle.const_eval.proofs.number.part_count.Goals as goal

pub returns-in-Ok-clause-count : goal.returns-in-Ok-clause-count
returns-in-Ok-clause-count c =
    let r = to_z-of_z w128 c.from.result (record { sfits = c.from.type_inv }) ∙ c.from.ensures in
    part_count_some c.args.part c.args.width c.in-Ok.count _ c.den-den.ensures.lowest.small.positive c.in-Ok.ensures.count r

pub returns-in-Err-clause-count : goal.returns-in-Err-clause-count
returns-in-Err-clause-count c =
    let refusal = c.in-Err.ensures.refusals in
    part_count_none c.args.part c.args.width (c.in-Err.ensures.not_dyadic.0 (λ i. Err (refusal i)))
