-- A body behind a body.
use Rattle.std.proofs.Common.{◌≡◌, ℕ, Bool, List, refl, ap}
use Rattle.core_ir.specs.Run.{Cells, Rest}
use Rattle.source_core.specs.Core.{Body, no_core, a_core, joined}
use Rattle.source_core.specs.CoreRun.{core_meaning, body_meaning}

pub joined_runs : (a b : Body) (ends starts : List Rest) (next : Rest) (cells : Cells) (outcomes : List Bool) (turns : ℕ)
    → body_meaning (joined a b) ends starts next cells outcomes turns ≡ body_meaning a ends starts (body_meaning b ends starts next) cells outcomes turns
joined_runs no_core b ends starts next cells outcomes turns = refl
joined_runs (a_core c rest) b ends starts next cells outcomes turns =
    ap (λ k. core_meaning c ends starts k cells outcomes turns) (λ i d os n. joined_runs rest b ends starts next d os n i)
