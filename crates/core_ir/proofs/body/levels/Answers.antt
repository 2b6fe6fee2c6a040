use Rattle.std.proofs.Common.{arith}
use Rattle.core_ir.proofs.Bodies.{step_holds, step_passes, opens_most}
use Rattle.core_ir.proofs.body.levels.Goals as goal

pub loop-left-preserved-then-times_within-gt0 : goal.loop-left-preserved-then-times_within-gt0
loop-left-preserved-then-times_within-gt0 c =
    let step = step_holds c.args.loops c.args.stmts.now c.loop-left.left c.loop-left.inner _ (omega arith) (omega arith) c.index-stmts-left.is (omega arith) in
    (omega (arith, step), omega (arith, opens_most))

pub loop-left-preserved : goal.loop-left-preserved
loop-left-preserved c =
    let step = step_passes c.args.loops c.args.stmts.now c.loop-left.left c.loop-left.inner _ (omega arith) (omega arith) c.index-stmts-left.is (omega arith) in
    (omega (arith, step), omega arith)
