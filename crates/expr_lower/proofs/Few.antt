-- No more expressions are reached than there are.
use Rattle.std.proofs.Common.{ℕ, zero, suc, ◌≤◌, if◌then◌else◌, Bool, true, false, length, arith}
use Rattle.core_ir.specs.Size.{count_from, is_reached}
use Rattle.expr_lower.specs.Reached.{FewAreReached}

few_from : (test : ℕ → Bool) (k n : ℕ) → count_from test k n ≤ n
few_from test k zero = omega arith
few_from test k (suc n) = one (test k) (few_from test (suc k) n)
  where
    one : (b : Bool) → count_from test (suc k) n ≤ n → (if b then suc (count_from test (suc k) n) else count_from test (suc k) n) ≤ suc n
    one true le = omega (arith, le)
    one false le = omega (arith, le)

pub few_are_reached : FewAreReached
few_are_reached exprs roots = few_from (is_reached exprs roots) 0 (length exprs)
