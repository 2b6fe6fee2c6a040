use Rattle.std.proofs.Common.{◌≢◌, ◌*ℤ◌, pos}
use Rattle.angle_arith.specs.Fraction.{sum_of, difference_of}
use Rattle.const_eval.proofs.Parts.{is_result, positive_nonzero, product_nonzero}
use Rattle.const_eval.proofs.part.on_parts.Goals as goal

pub returns-in-Add : goal.returns-in-Add
returns-in-Add c =
    let above : c.args.b.den ≢ pos 0 = positive_nonzero c.args.b.den c.den-2.ensures.lowest.small.positive in
    let nonzero : c.args.a.den *ℤ c.args.b.den ≢ pos 0 = product_nonzero c.args.a.den c.args.b.den c.den.ensures.lowest.small.positive above in
    rw c.in-Add.is (c.part_constant.ensures (sum_of c.args.a c.args.b) nonzero
    (is_result (sum_of c.args.a c.args.b) c.angle_add.result c.angle_add.ensures.exact c.angle_add.ensures.lowest c.angle_add.ensures.range c.angle_add.ensures.refusals))

pub returns-in-Subtract : goal.returns-in-Subtract
returns-in-Subtract c =
    let above : c.args.b.den ≢ pos 0 = positive_nonzero c.args.b.den c.den-2.ensures.lowest.small.positive in
    let nonzero : c.args.a.den *ℤ c.args.b.den ≢ pos 0 = product_nonzero c.args.a.den c.args.b.den c.den.ensures.lowest.small.positive above in
    rw c.in-Subtract.is (c.part_constant-in-Subtract.ensures (difference_of c.args.a c.args.b) nonzero
    (is_result (difference_of c.args.a c.args.b) c.angle_sub.result c.angle_sub.ensures.exact c.angle_sub.ensures.lowest c.angle_sub.ensures.range c.angle_sub.ensures.refusals))
