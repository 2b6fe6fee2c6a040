use Rattle.std.proofs.Common.{◌≡◌, ◌*ℤ◌, int_cmp}
use Rattle.std.proofs.lemmas.Int.{to_z-of_z}
use Rattle.std.specs.Int.{w128}
use Rattle.angle_arith.proofs.Integers.{orders}
use Rattle.angle_arith.proofs.LowestTerms.{unique}
use Rattle.angle_arith.proofs.arithmetic.angle_cmp.Goals as goal
use Rattle.angle_arith.proofs.arithmetic.angle_cmp.Goals.{After-cmp}

order_is : (c : After-cmp) → c.cmp.result ≡ int_cmp (c.args.a.num *ℤ c.args.b.den) (c.args.b.num *ℤ c.args.a.den)
order_is c =
    let first = to_z-of_z w128 c.cross.result (record { sfits = c.cross.type_inv }) in
    let second = to_z-of_z w128 c.cross-2.result (record { sfits = c.cross-2.type_inv }) in
    cc

pub returns-clause-less : goal.returns-clause-less
returns-clause-less c = (orders _ _ _ (order_is c)).0

pub returns-clause-equal : goal.returns-clause-equal
returns-clause-equal c = (orders _ _ _ (order_is c)).1

pub returns-clause-greater : goal.returns-clause-greater
returns-clause-greater c = (orders _ _ _ (order_is c)).2

pub returns-clause-unique : goal.returns-clause-unique
returns-clause-unique c = unique c.args.a c.args.b c.cross.ensures.lowest.0 c.cross.ensures.lowest.1
