use Rattle.std.proofs.Common.{◌≡◌, ℕ, ◌<◌, ◌≤◌, true, false, length, get_or, slice_get}
use Rattle.core_ir.specs.Levels.{levels_below, LevelFits}
use Rattle.core_ir.proofs.around.all_levels_fit.Given as goal

-- the levels among the statements so far
abbrev pub invariant-loop-k : goal.invariant-loop-k
invariant-loop-k l = record {
  ends : (j : ℕ) → j < length l.stmts → get_or l.ends j 0 ≡ levels_below false l.stmts l.k j;
  starts : (j : ℕ) → j < length l.stmts → get_or l.starts j 0 ≡ levels_below true l.stmts l.k j;
  few_ends : (j : ℕ) → j < length l.stmts → get_or l.ends j 0 ≤ l.k;
  few_starts : (j : ℕ) → j < length l.stmts → get_or l.starts j 0 ≤ l.k;
  fit : (i : ℕ) → i < l.k → LevelFits l.stmts i (slice_get l.stmts i);
}
