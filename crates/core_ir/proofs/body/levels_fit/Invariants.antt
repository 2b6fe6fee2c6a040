use Rattle.std.proofs.Common.{ℕ, ◌<◌, slice_get}
use Rattle.core_ir.specs.Levels.{LevelFits}
use Rattle.core_ir.proofs.body.levels_fit.Given as goal

abbrev pub invariant-loop-k : goal.invariant-loop-k
invariant-loop-k l = (k : ℕ) → k < l.k → LevelFits l.stmts k (slice_get l.stmts k)
