use Rattle.const_eval.proofs.WalkLaws.{then_done, then_then}
use Rattle.const_eval.proofs.laws.walks_are_joined.Goals as goal

pub returns : goal.returns
returns g c = record { nothing = then_done; in_order = λ w f g. then_then f g w }
