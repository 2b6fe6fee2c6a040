use Rattle.angle_arith.proofs.LowestTerms.{lowest_negative}
use Rattle.angle_arith.proofs.laws.negatives_keep_lowest_terms.Goals as goal

pub returns : goal.returns
returns c = lowest_negative
