use Rattle.std.proofs.Common.{arith}
use Rattle.block_graph.specs.Bounds.{IsHeldArg}
use Rattle.block_lower.proofs.Holding.{held_next}
use Rattle.block_lower.proofs.held.args_held.Goals as goal

pub loop-arg-preserved : goal.loop-arg-preserved
loop-arg-preserved c = held_next IsHeldArg c.args.args.now c.loop-arg.arg-index _ (omega arith) c.loop-arg.invariant c.arg_held.ensures

pub returns : goal.returns
returns c k d lt = c.loop-arg.invariant k d (omega (arith, lt))
