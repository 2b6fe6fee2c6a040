use Rattle.std.proofs.Common.{ℕ, ◌<◌}
use Rattle.qir_module.specs.Functions.{IsNameOf}
use Rattle.qir_module.proofs.function.Function.by_name.Given as goal

-- none of the functions so far has the name
abbrev pub invariant-loop-place : goal.invariant-loop-place
invariant-loop-place l = (k : ℕ) → k < l.place → ¬ IsNameOf k l.name
