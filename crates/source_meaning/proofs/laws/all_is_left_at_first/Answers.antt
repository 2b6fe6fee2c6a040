use Rattle.std.proofs.Common.{refl}
use Rattle.source_meaning.proofs.laws.all_is_left_at_first.Goals as goal

pub returns : goal.returns
returns c = record { seen = λ expand top place outcomes turns. refl; halt = λ expand top place outcomes turns. refl }
