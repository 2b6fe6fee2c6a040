use Rattle.angle_arith.proofs.Lowest.{same, stands, in_range, alone}
use Rattle.angle_arith.proofs.laws.fractions_have_lowest_terms.Goals as goal

pub returns : goal.returns
returns c = record { same = same; stands = stands; in_range = in_range; alone = λ f g nonzero. alone f nonzero g }
