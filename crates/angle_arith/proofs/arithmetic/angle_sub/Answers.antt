use Rattle.std.proofs.Common.{◌≡◌, ◌-ℤ◌, ◌*ℤ◌, ◌∙◌, arith, SFits, to_z, of_z}
use Rattle.std.proofs.lemmas.Int.{to_z-of_z, ints}
use Rattle.std.specs.Int.{w128}
use Rattle.angle_arith.proofs.Integers.{difference_arg}
use Rattle.angle_arith.proofs.arithmetic.angle_sub.Goals as goal
use Rattle.angle_arith.proofs.arithmetic.angle_sub.Goals.{After-lowest_terms}

num_is : (c : After-lowest_terms) → to_z w128 (of_z w128 (to_z w128 (of_z w128 c.cross.result) -ℤ to_z w128 (of_z w128 c.cross-2.result))) ≡ c.args.a.num *ℤ c.args.b.den -ℤ c.args.b.num *ℤ c.args.a.den
num_is c =
    let fits : SFits w128 (c.cross.result -ℤ c.cross-2.result) = omega (arith, ints) in
    let whole = difference_arg c.cross.result c.cross-2.result (record { sfits = c.cross.type_inv }) (record { sfits = c.cross-2.type_inv }) fits in
    cc

den_is : (c : After-lowest_terms) → to_z w128 (of_z w128 c.common_den.result) ≡ c.args.a.den *ℤ c.args.b.den
den_is c = to_z-of_z w128 c.common_den.result (record { sfits = c.common_den.type_inv }) ∙ c.common_den.ensures.value

pub returns-clause-exact : goal.returns-clause-exact
returns-clause-exact c = rw (num_is c, den_is c) at c.lowest_terms.ensures.exact

pub returns-clause-range : goal.returns-clause-range
returns-clause-range c = rw (num_is c, den_is c) at c.lowest_terms.ensures.range
