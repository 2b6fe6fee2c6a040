use Rattle.qir_lexer.proofs.Scanning.{too_large}
use Rattle.qir_lexer.proofs.scan.value_of.Goals as goal

pub returns-then-value-gt1844674407370955160 : goal.returns-then-value-gt1844674407370955160
returns-then-value-gt1844674407370955160 c =
    too_large c.loop-digit.value c.args.digits.now c.loop-digit.digit-index _ c.loop-digit-test.true c.loop-digit.invariant.1 c.if-value-gt1844674407370955160.true
