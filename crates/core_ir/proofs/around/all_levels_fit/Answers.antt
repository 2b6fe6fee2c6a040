use Rattle.std.proofs.Common.{true, false, Some, arith, rules, below_more}
use Rattle.core_ir.proofs.LevelTable.{level_next, level_few, fits_at}
use Rattle.core_ir.proofs.around.all_levels_fit.Goals as goal

pub loop-k-preserved : goal.loop-k-preserved
loop-k-preserved c = record {
  ends = λ j l. level_next false c.args.stmts.now c.loop-k.k j _ _ _ _ _ (omega arith) c.index-stmts-k.is c.opens.ensures (c.loop-k.invariant.ends c.loop-k.k (omega arith)) (c.loop-k.invariant.ends j l) (c.enter.ensures j (omega arith));
  starts = λ j l. level_next true c.args.stmts.now c.loop-k.k j _ _ _ _ _ (omega arith) c.index-stmts-k.is c.opens-in-loop-k.ensures (c.loop-k.invariant.starts c.loop-k.k (omega arith)) (c.loop-k.invariant.starts j l) (c.enter-in-loop-k.ensures j (omega arith));
  few_ends = λ j l. level_few false _ (Some c.index-stmts-k.result) c.loop-k.k _ _ _ _ c.opens.ensures (c.loop-k.invariant.few_ends c.loop-k.k (omega arith)) (c.loop-k.invariant.few_ends j l) (c.enter.ensures j (omega arith));
  few_starts = λ j l. level_few true _ (Some c.index-stmts-k.result) c.loop-k.k _ _ _ _ c.opens-in-loop-k.ensures (c.loop-k.invariant.few_starts c.loop-k.k (omega arith)) (c.loop-k.invariant.few_starts j l) (c.enter-in-loop-k.ensures j (omega arith));
  fit = below_more _ _ c.loop-k.invariant.fit (fits_at c.args.stmts.now c.loop-k.k _ _ _ (omega arith) c.index-stmts-k.is (c.loop-k.invariant.ends c.loop-k.k (omega arith)) (c.loop-k.invariant.starts c.loop-k.k (omega arith)) (c.jump_fits.ensures.0 (search rules)));
}
