use Rattle.std.proofs.Common.{◌≡◌, ℕ, ◌<◌, nat_lt, if◌then◌else◌, length, get_or, drop}
use Rattle.core_ir.specs.WellFormed.{times}
use Rattle.core_ir.proofs.around.set_levels.Given as goal

-- those of the rest of the body are still to be set
abbrev pub invariant-loop-j : goal.invariant-loop-j
invariant-loop-j l = (i : ℕ) → i < length l.levels → (if nat_lt 0 (times i (drop l.j-index l.body)) then l.inside else get_or l.levels i 0) ≡ (if nat_lt 0 (times i l.body) then l.inside else get_or l.initial.levels i 0)
