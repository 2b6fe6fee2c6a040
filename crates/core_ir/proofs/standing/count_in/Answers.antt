use Rattle.std.proofs.Common.{◌+◌, arith}
use Rattle.core_ir.proofs.Counting.{times_step}
use Rattle.core_ir.proofs.standing.count_in.Goals as goal

pub loop-j-preserved : goal.loop-j-preserved
loop-j-preserved c = record {
  few = c.count_one.ensures.few;
  counts = λ i l.
      let step = times_step c.args.body.now c.loop-j.j-index (c.args.start + i) 0 (omega arith) in
      omega (arith, step, c.count_one.ensures.counts i l, c.loop-j.invariant.few i (omega arith), c.loop-j.invariant.counts i (omega arith));
}
