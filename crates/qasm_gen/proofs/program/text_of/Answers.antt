use Rattle.qasm_gen.proofs.Steps.{line_added, draws_added}
use Rattle.qasm_gen.proofs.program.text_of.Goals as goal

pub loop-preserved : goal.loop-preserved
loop-preserved c =
    rw (c.in_ok-extend_from_slice-2.ensures.items, c.as_bytes-in-loop.ensures.value, c.in_ok-line.ensures.line, c.in_ok-line.ensures.state) (
      line_added c.args.size c.loop.counter c.loop.draws.state c.loop.text.items _ c.loop-test.true c.loop.invariant.0,
      draws_added c.args.size c.loop.counter c.loop.draws.state _ c.loop-test.true c.loop.invariant.1,
    )
