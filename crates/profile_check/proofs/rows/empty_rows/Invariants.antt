use Rattle.std.proofs.Common.{◌≡◌, ℕ, [], length}
use Rattle.profile_check.specs.Ways.{row}
use Rattle.profile_check.proofs.rows.empty_rows.Given as goal

abbrev pub invariant-loop : goal.invariant-loop
invariant-loop g l = (length l.rows.items ≡ l.counter) × ((b : ℕ) → row l.rows.items b ≡ [])
