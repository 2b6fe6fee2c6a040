use Rattle.const_eval.proofs.WalkLaws.{over-budget, within-budget}
use Rattle.const_eval.proofs.laws.budgets_are_kept.Goals as goal

pub returns : goal.returns
returns g c = record { over = over-budget; kept = within-budget }
