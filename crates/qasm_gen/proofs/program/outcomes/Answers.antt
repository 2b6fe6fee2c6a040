use Rattle.qasm_gen.proofs.Steps.{outcome_added}
use Rattle.qasm_gen.proofs.program.outcomes.Goals as goal

pub loop-preserved : goal.loop-preserved
loop-preserved c = rw (c.in_ok-push.ensures.items, c.draw.ensures.drawn, c.draw.ensures.state) (outcome_added c.args.size c.loop.counter c.loop.draws.state c.loop.outcomes.items _ c.loop-test.true c.loop.invariant)
