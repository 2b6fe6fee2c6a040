use Rattle.std.proofs.Common.{◌^◌, ◌≤◌, pos, ◌≤ℤ◌, unsigned_abs, ◌∙◌, sym, arith, lit<}
use Rattle.std.proofs.lemmas.Int.{ints}
use Rattle.angle_arith.proofs.Integers.{product_arg, zero_factor}
use Rattle.angle_arith.proofs.arithmetic.common_den.Goals as goal

pub returns-clause-nonzero : goal.returns-clause-nonzero
returns-clause-nonzero c e =
    let first_size : unsigned_abs c.den.result ≤ 2 ^ 62 = rw c.den.ensures.value c.den.ensures.lowest.small.den_size in
    let second_size : unsigned_abs c.den-2.result ≤ 2 ^ 62 = rw c.den-2.ensures.value c.den-2.ensures.lowest.small.den_size in
    let first_positive : pos 1 ≤ℤ c.den.result = rw c.den.ensures.value c.den.ensures.lowest.small.positive in
    let second_positive : pos 1 ≤ℤ c.den-2.result = rw c.den-2.ensures.value c.den-2.ensures.lowest.small.positive in
    let product = sym (product_arg c.den.result c.den-2.result (record { sfits = c.den.type_inv }) (record { sfits = c.den-2.type_inv }) (2 ^ 62) (2 ^ 62) first_size second_size (lit< tt)) ∙ e in
    let second_zero = zero_factor c.den.result c.den-2.result first_positive product in
    omega (arith, ints)
