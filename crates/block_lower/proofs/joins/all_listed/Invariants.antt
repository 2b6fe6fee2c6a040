use Rattle.std.proofs.Common.{◌≡◌, ℕ, ◌<◌, false, get_or, pos}
use Rattle.qir_module.specs.declared.instruction.Operand.TheVariants.{Fixed}
use Rattle.phi_place.specs.State.{CellState}
use Rattle.phi_place.specs.Phis.{is_listed, operand_at}
use Rattle.block_lower.proofs.joins.all_listed.Given as goal

-- of the ways so far
abbrev pub invariant-loop-way : goal.invariant-loop-way
invariant-loop-way l = (x : ℕ) → is_listed l.cells.items x ≡ false → (k : ℕ) (d : CellState) → k < l.way-index → operand_at (get_or l.ways k d) x ≡ Fixed (pos 0)
