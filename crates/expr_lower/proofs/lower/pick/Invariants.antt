use Rattle.std.proofs.Common.{◌≡◌, ◌++◌, ℕ, map, drop}
use Rattle.expr_lower.specs.Emit.{found}
use Rattle.expr_lower.proofs.lower.pick.Given as goal

abbrev pub invariant-loop-e : goal.invariant-loop-e
invariant-loop-e l = l.operands.items ++ map (λ (e : ℕ). (found l.order l.done e).operand) (drop l.e-index l.exprs) ≡ map (λ (e : ℕ). (found l.order l.done e).operand) l.exprs
