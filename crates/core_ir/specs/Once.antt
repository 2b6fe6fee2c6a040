-- For private contracts only: how often statements stand in bodies, for some of them.
use Rattle.std.specs.Prelude.{ℕ, ◌+◌, ◌<◌, ◌≤◌, ◌≡◌, List, ◌++◌, EachIndex, slice_index}
use Rattle.core_ir.specs.declared.statement.CoreStmt.{CoreStmt}
use Rattle.core_ir.specs.WellFormed.{bodies_in, times}

-- what is counted up to two
abbrev pub AreFew : List ℕ → Type 0
AreFew seen = EachIndex seen (λ i. slice_index seen i ≤ 2)

-- n statements from a place on stand in one body, at one place
abbrev pub StandFrom : ℕ → ℕ → List ℕ → List CoreStmt → Type 0
StandFrom start n body stmts = (i : ℕ) → i < n → times (start + i) (body ++ bodies_in stmts) ≡ 1
