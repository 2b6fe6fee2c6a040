use Rattle.word_arith.proofs.Congruence.{congruent_refl, congruent_sym, congruent_trans, congruent_add, congruent_sub, congruent_mul, congruent_neg}
use Rattle.word_arith.proofs.laws.congruent_numbers_combine.Goals as goal

pub returns-clause-same : goal.returns-clause-same
returns-clause-same c = congruent_refl

pub returns-clause-turned : goal.returns-clause-turned
returns-clause-turned c = congruent_sym

pub returns-clause-joined : goal.returns-clause-joined
returns-clause-joined c = congruent_trans

pub returns-clause-sums : goal.returns-clause-sums
returns-clause-sums c = congruent_add

pub returns-clause-differences : goal.returns-clause-differences
returns-clause-differences c = congruent_sub

pub returns-clause-products : goal.returns-clause-products
returns-clause-products c = congruent_mul

pub returns-clause-negatives : goal.returns-clause-negatives
returns-clause-negatives c = congruent_neg
