use Rattle.std.proofs.Common.{◌≡◌, pos, neg_ℤ, ◌-ℤ◌, sym, subst₂, arith, to_z, of_z}
use Rattle.std.proofs.lemmas.Int.{ints}
use Rattle.std.specs.Int.{w128}
use Rattle.angle_arith.specs.Fraction.{fraction_of, IsLowestTerms}
use Rattle.angle_arith.proofs.LowestTerms.{lowest_negative}
use Rattle.angle_arith.proofs.fraction.PiFraction.negated.Goals as goal

pub invariant_of-result : goal.invariant_of-result
invariant_of-result c =
    let f = c.self.inside in
    let num_size = c.self.invariant.small.num_size in
    let den_size = c.self.invariant.small.den_size in
    let num_is : to_z w128 (of_z w128 (pos 0 -ℤ to_z w128 (of_z w128 f.num))) ≡ neg_ℤ f.num = omega (arith, ints) in
    let den_is : to_z w128 (of_z w128 f.den) ≡ f.den = omega (arith, ints) in
    subst₂ (λ n d. IsLowestTerms (fraction_of n d)) (sym num_is) (sym den_is) (lowest_negative (fraction_of f.num f.den) c.self.invariant)

pub returns-clause-lowest : goal.returns-clause-lowest
returns-clause-lowest c = invariant_of-result c
