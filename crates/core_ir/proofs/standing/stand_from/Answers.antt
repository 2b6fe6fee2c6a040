use Rattle.std.proofs.Common.{arith}
use Rattle.core_ir.proofs.Counting.{one_counted}
use Rattle.core_ir.proofs.standing.stand_from.Goals as goal

pub returns : goal.returns
returns c = (
  (λ one i l.
      (one_counted c.args.start i _ _ _ c.args.body.now c.args.stmts.now (c.clear.ensures i (omega arith)) (c.count_in.ensures.counts i (omega arith)) (c.count_all.ensures.counts i (omega arith))).0
      (c.are_one.ensures.0 one i (omega arith))),
  (λ all. c.are_one.ensures.1 (λ i l.
      (one_counted c.args.start i _ _ _ c.args.body.now c.args.stmts.now (c.clear.ensures i (omega arith)) (c.count_in.ensures.counts i (omega arith)) (c.count_all.ensures.counts i (omega arith))).1
      (all i (omega arith)))),
)
