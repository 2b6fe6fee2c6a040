use Rattle.std.proofs.Common.{arith}
use Rattle.block_graph.specs.Bounds.{IsHeldOutput}
use Rattle.block_lower.proofs.Holding.{held_next}
use Rattle.block_lower.proofs.held.outputs_held.Goals as goal

pub loop-output-preserved : goal.loop-output-preserved
loop-output-preserved c = held_next IsHeldOutput c.args.outputs.now c.loop-output.output-index _ (omega arith) c.loop-output.invariant c.output_held.ensures

pub returns : goal.returns
returns c k d lt = c.loop-output.invariant k d (omega (arith, lt))
