-- For private contracts only: the numbers by which names stand in scopes.
use Rattle.std.specs.Prelude.{◌≢◌, ℕ, ◌<◌, List, length}
use Rattle.qasm_ast.specs.Tree.{text_at}

-- a number whose text no smaller number has
pub record IsKey (ts : List (List ℕ)) (key : ℕ) : Type 0 where
  pub within : key < length ts
  pub first : (other : ℕ) → other < key → text_at ts other ≢ text_at ts key
