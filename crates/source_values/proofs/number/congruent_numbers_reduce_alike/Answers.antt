use Rattle.source_values.proofs.Reducing.{reduce_alike}
use Rattle.source_values.proofs.number.congruent_numbers_reduce_alike.Goals as goal

pub returns : goal.returns
returns c = reduce_alike c.congruent_numbers_have_one_word.ensures
