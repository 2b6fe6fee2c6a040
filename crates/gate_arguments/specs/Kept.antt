-- Serves private contracts alone: turns that stay while a list of them grows.
use Rattle.std.specs.Prelude.{◌≡◌, ℕ, ◌≤◌, List, length, slice_get, Some}
use Rattle.gate_lists.specs.declared.expansion.TurnExpr.{TurnExpr}

-- the turns that were there keep their places
pub record KeepsTurns (old new : List TurnExpr) : Type 0 where
  pub more : length old ≤ length new
  pub kept : (k : ℕ) (t : TurnExpr) → slice_get old k ≡ Some t → slice_get new k ≡ Some t
