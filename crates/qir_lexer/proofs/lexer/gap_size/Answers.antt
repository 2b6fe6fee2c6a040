use Rattle.qir_lexer.proofs.Finding.{rest_is}
use Rattle.qir_lexer.proofs.Readings.{no_gap_here, blank_more, comment_more}
use Rattle.qir_lexer.proofs.lexer.gap_size.Goals as goal

pub loop-size-preserved-in-Blank : goal.loop-size-preserved-in-Blank
loop-size-preserved-in-Blank c = blank_more c.args.text.now c.loop-size.size c.loop-size-test.true c.loop-size.invariant.1 c.loop-size.invariant.2 c.in-Blank.ensures

pub loop-size-preserved : goal.loop-size-preserved
loop-size-preserved c = comment_more c.args.text.now c.loop-size.size c.loop-size-test.true c.loop-size.invariant.1 c.loop-size.invariant.2 c.in-Semicolon.ensures _ c.count_while.result (rest_is _ c.args.text.now) c.count_while.ensures.count

pub returns-in_default : goal.returns-in_default
returns-in_default c = no_gap_here c.args.text.now c.loop-size.size c.loop-size-test.true c.lead_of.result c.lead_of.ensures c.in_default.not-Blank c.in_default.not-Semicolon c.loop-size.invariant.1 c.loop-size.invariant.2
