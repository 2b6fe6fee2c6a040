use Rattle.std.proofs.Common.{◌≢◌, ◌*ℤ◌, pos}
use Rattle.angle_arith.specs.Fraction.{product_of, quotient_of}
use Rattle.const_eval.proofs.Parts.{behind_bits, bits_nonzero, is_quotient, is_result, positive_nonzero, product_answer, product_nonzero, quotient_answer}
use Rattle.const_eval.proofs.part.scaled.Goals as goal

pub returns-in-Divide-2 : goal.returns-in-Divide-2
returns-in-Divide-2 c =
    let other : behind_bits c.args.number ≢ pos 0 = bits_nonzero c.args.number c.ranges.number c.if-number-eq0.false in
    let nonzero : c.args.part.den *ℤ behind_bits c.args.number ≢ pos 0 = product_nonzero c.args.part.den (behind_bits c.args.number) c.den.ensures.lowest.small.positive other in
    rw c.in-Divide-2.is
    (quotient_answer c.part_constant.result c.args.at c.args.part c.args.number c.ranges.number c.if-number-eq0.false
    (c.part_constant.ensures (quotient_of c.args.part (behind_bits c.args.number)) nonzero
    (is_quotient (quotient_of c.args.part (behind_bits c.args.number)) (behind_bits c.args.number) c.angle_div.result other c.angle_div.ensures.exact c.angle_div.ensures.lowest c.angle_div.ensures.divide c.angle_div.ensures.range c.angle_div.ensures.refusals)))

pub returns-in_default : goal.returns-in_default
returns-in_default c =
    let nonzero : c.args.part.den ≢ pos 0 = positive_nonzero c.args.part.den c.den.ensures.lowest.small.positive in
    product_answer c.part_constant-in_default.result c.args.op c.args.at c.args.part c.args.number c.ranges.number c.requires.scaling c.in_default.not-Divide
    (c.part_constant-in_default.ensures (product_of c.args.part (behind_bits c.args.number)) nonzero
    (is_result (product_of c.args.part (behind_bits c.args.number)) c.angle_mul.result c.angle_mul.ensures.exact c.angle_mul.ensures.lowest c.angle_mul.ensures.range c.angle_mul.ensures.refusals))
