use Rattle.std.proofs.Common.{◌+◌, arith}
use Rattle.core_ir.proofs.Bodies.{bodies_step}
use Rattle.core_ir.proofs.standing.count_all.Goals as goal

pub loop-stmt-preserved : goal.loop-stmt-preserved
loop-stmt-preserved c = record {
  few = c.count_inner.ensures.few;
  counts = λ i l.
      let step = bodies_step c.args.stmts.now c.loop-stmt.stmt-index (c.args.start + i) _ (omega arith) c.stmt-item.is in
      omega (arith, step, c.count_inner.ensures.counts i l, c.loop-stmt.invariant.few i (omega arith), c.loop-stmt.invariant.counts i (omega arith));
}
