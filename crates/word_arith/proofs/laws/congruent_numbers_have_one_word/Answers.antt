use Rattle.word_arith.proofs.Reduction.{reduced-congruent, congruent_from_reduced}
use Rattle.word_arith.proofs.laws.congruent_numbers_have_one_word.Goals as goal

pub returns : goal.returns
returns c ty x y = (reduced-congruent ty x y, congruent_from_reduced ty x y)
