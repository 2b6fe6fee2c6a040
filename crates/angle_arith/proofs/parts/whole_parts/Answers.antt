use Rattle.std.proofs.Common.{◌≡◌, ◌^◌, ◌≤◌, pos, ◌*ℤ◌, unsigned_abs, arith, to_z, of_z, lit<}
use Rattle.std.proofs.lemmas.Int.{ints}
use Rattle.std.specs.Int.{w128}
use Rattle.angle_arith.proofs.Integers.{product_arg}
use Rattle.angle_arith.proofs.parts.whole_parts.Goals as goal
use Rattle.angle_arith.proofs.parts.whole_parts.Goals.{After-exact_quotient}

num_is : (c : After-exact_quotient) → to_z w128 (of_z w128 (to_z w128 (of_z w128 c.num.result) *ℤ to_z w128 (of_z w128 c.turn.result))) ≡ c.args.a.num *ℤ pos (2 ^ c.args.width)
num_is c =
    let size : unsigned_abs c.num.result ≤ 2 ^ 62 = rw c.num.ensures.value c.num.ensures.lowest.small.num_size in
    let product = product_arg c.num.result c.turn.result (record { sfits = c.num.type_inv }) (record { sfits = c.turn.type_inv }) (2 ^ 62) (2 ^ 32) size c.turn.ensures.size (lit< tt) in
    cc

den_is : (c : After-exact_quotient) → to_z w128 (of_z w128 (to_z w128 (of_z w128 c.den.result) *ℤ pos 2)) ≡ c.args.a.den *ℤ pos 2
den_is c = omega (arith, ints)

pub returns-clause-parts : goal.returns-clause-parts
returns-clause-parts c = rw (num_is c, den_is c) at c.exact_quotient.ensures.exact

pub returns-clause-none : goal.returns-clause-none
returns-clause-none c = rw (num_is c, den_is c) at c.exact_quotient.ensures.none
