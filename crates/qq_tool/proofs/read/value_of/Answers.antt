use Rattle.std.proofs.Common.{arith}
use Rattle.qq_tool.proofs.Numbers.{value_below, value_more}
use Rattle.qq_tool.proofs.read.value_of.Goals as goal

pub overflow_mul-value : goal.overflow_mul-value
overflow_mul-value c = omega (arith, c.loop-digit.invariant, value_below c.args.digits.now c.loop-digit.digit-index c.requires.few c.requires.digits)

pub loop-digit-preserved : goal.loop-digit-preserved
loop-digit-preserved c = omega (arith, c.from.ensures, c.loop-digit.invariant, value_more c.args.digits.now c.loop-digit.digit-index c.loop-digit-test.true c.requires.digits)
