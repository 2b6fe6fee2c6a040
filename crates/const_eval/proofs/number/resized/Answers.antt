use Rattle.const_eval.proofs.Counting.{widened_below, narrowed_below}
use Rattle.const_eval.proofs.number.resized.Goals as goal

pub returns-then-angle-width-clause-below : goal.returns-then-angle-width-clause-below
returns-then-angle-width-clause-below c =
    let a = c.args.angle in
    widened_below a.count a.width c.args.width a.below c.if-angle-width.true c.requires

pub returns-else-angle-width-clause-below : goal.returns-else-angle-width-clause-below
returns-else-angle-width-clause-below c =
    let a = c.args.angle in
    narrowed_below a.count a.width c.args.width a.below c.if-angle-width.false
