-- A turn that is put behind others.
use Rattle.std.specs.Prelude.{◌≡◌, ℕ, List, [], ◌∷◌, ◌++◌, length}
use Rattle.gate_lists.specs.declared.expansion.TurnExpr.{TurnExpr}

-- the turn stands behind the others, at this place
pub record IsPushed (old new : List TurnExpr) (t : TurnExpr) (place : ℕ) : Type 0 where
  pub items : new ≡ old ++ t ∷ []
  pub next : place ≡ length old
