-- What is tested of each is known of all.
use Rattle.std.proofs.Common.{ℕ, zero, suc, ◌+◌, ◌<◌, ◌≡◌, List, [], ◌∷◌, get_or, subst, arith}
use Rattle.std.specs.List.Sorted.{IsStrictlyIncreasing}
use Rattle.core_cases.specs.Tested.{Ascends}

pub increasing : (xs : List ℕ) → Ascends xs → IsStrictlyIncreasing xs
increasing [] rises k l = absurd (omega (arith, l))
increasing (x ∷ []) rises k l = absurd (omega (arith, l))
increasing (x ∷ y ∷ ys) rises zero l = rises.0
increasing (x ∷ y ∷ ys) rises (suc k) l =
    let up : suc (k + 1) ≡ suc k + 1 = omega arith in
    subst (λ (n : ℕ). get_or (y ∷ ys) k 0 < get_or (x ∷ y ∷ ys) n 0) up (increasing (y ∷ ys) rises.1 k (omega (arith, l)))
