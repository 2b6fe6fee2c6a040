use Rattle.qasm_lexer.proofs.Numerals.{went_none, went_step, step_shorter}
use Rattle.qasm_lexer.proofs.numbers.skip_digits.Goals as goal

pub loop-behind-init : goal.loop-behind-init
loop-behind-init c = (c.utf8.text, went_none _ _ c.utf8.text)

pub loop-behind-smaller : goal.loop-behind-smaller
loop-behind-smaller c = step_shorter _ c.in-Some.ensures.1 c.in-Some.ensures.2

pub loop-behind-preserved : goal.loop-behind-preserved
loop-behind-preserved c =
    (c.in-Some.ensures.1.rest_utf8, went_step c.args.base c.loop-behind.invariant.1 c.in-Some.ensures.1 c.in-Some.ensures.2)
