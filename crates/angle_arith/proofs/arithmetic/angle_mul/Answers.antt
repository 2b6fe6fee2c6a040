use Rattle.std.proofs.Common.{◌≡◌, ◌^◌, ◌≤◌, ◌*ℤ◌, unsigned_abs, IfOk, ◌∙◌, subst₂, to_z, of_z, lit<}
use Rattle.std.proofs.lemmas.Int.{to_z-of_z}
use Rattle.std.specs.Int.{w128}
use Rattle.angle_arith.specs.Fraction.{fraction_of, IsSameFraction}
use Rattle.angle_arith.proofs.Integers.{product_arg}
use Rattle.angle_arith.proofs.arithmetic.angle_mul.Goals as goal
use Rattle.angle_arith.proofs.arithmetic.angle_mul.Goals.{After-lowest_terms}

num_is : (c : After-lowest_terms) → to_z w128 (of_z w128 (to_z w128 (of_z w128 c.num.result) *ℤ to_z w128 (of_z w128 c.args.k))) ≡ c.args.a.num *ℤ c.args.k
num_is c =
    let size : unsigned_abs c.num.result ≤ 2 ^ 62 = rw c.num.ensures.value c.num.ensures.lowest.small.num_size in
    let product = product_arg c.num.result c.args.k (record { sfits = c.num.type_inv }) c.ranges.k (2 ^ 62) (2 ^ 64) size c.requires (lit< tt) in
    cc

den_is : (c : After-lowest_terms) → to_z w128 (of_z w128 c.den.result) ≡ c.args.a.den
den_is c = to_z-of_z w128 c.den.result (record { sfits = c.den.type_inv }) ∙ c.den.ensures.value

pub returns-clause-exact : goal.returns-clause-exact
returns-clause-exact c = subst₂ (λ n d. IfOk c.lowest_terms.result (λ f. IsSameFraction f (fraction_of n d))) (num_is c) (den_is c) c.lowest_terms.ensures.exact

pub returns-clause-range : goal.returns-clause-range
returns-clause-range c = rw (num_is c, den_is c) at c.lowest_terms.ensures.range
