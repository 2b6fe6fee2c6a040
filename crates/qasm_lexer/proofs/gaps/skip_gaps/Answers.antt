use Rattle.std.proofs.Common.{true, false}
use Rattle.qasm_lexer.proofs.Closing.{no_gaps_yet, one_gap_more, gaps_end, gap_shorter}
use Rattle.qasm_lexer.proofs.gaps.skip_gaps.Goals as goal

pub loop-behind-init : goal.loop-behind-init
loop-behind-init c = (c.utf8.text, no_gaps_yet _ c.utf8.text)

pub loop-behind-smaller : goal.loop-behind-smaller
loop-behind-smaller c = gap_shorter c.in-Before.ensures.1 c.in-Before.ensures.2

pub loop-behind-preserved : goal.loop-behind-preserved
loop-behind-preserved c =
    (c.in-Before.ensures.1.rest_utf8, one_gap_more c.loop-behind.invariant.1 c.in-Before.ensures.1 c.in-Before.ensures.2)

pub returns-in-Open : goal.returns-in-Open
returns-in-Open c = gaps_end true c.loop-behind.invariant.1 c.in-Open.ensures

pub returns-in-Nothing : goal.returns-in-Nothing
returns-in-Nothing c = gaps_end false c.loop-behind.invariant.1 c.in-Nothing.ensures
