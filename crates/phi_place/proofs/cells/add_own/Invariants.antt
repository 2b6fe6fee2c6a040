use Rattle.std.proofs.Common.{◌≡◌, ◌++◌, drop, map, ℕ}
use Rattle.phi_place.proofs.cells.add_own.Given as goal

abbrev pub invariant-loop-cell : goal.invariant-loop-cell
invariant-loop-cell l = l.cells.items ++ map (λ (p : ℕ × ℕ). p.0) (drop l.cell-index l.cell-items) ≡ l.fn.cells.items ++ map (λ (p : ℕ × ℕ). p.0) l.cell-items
