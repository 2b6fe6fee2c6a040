use Rattle.std.proofs.Common.{ℕ, ◌<◌, All, length, slice_get}
use Rattle.core_ir.specs.WellFormed.{inner_of, IsLater}
use Rattle.core_ir.proofs.body.bodies_fit.Given as goal

abbrev pub invariant-loop-k : goal.invariant-loop-k
invariant-loop-k l = (k : ℕ) → k < l.k → All (IsLater k (length l.stmts)) (inner_of (slice_get l.stmts k))
