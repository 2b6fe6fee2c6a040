use Rattle.std.proofs.Common.{◌≡◌, ◌^◌, ◌≤◌, ◌*ℤ◌, unsigned_abs, ◌∙◌, ap, to_z, of_z, lit<}
use Rattle.std.proofs.Math.IntN.{*ℤ-zero}
use Rattle.std.proofs.lemmas.Int.{to_z-of_z}
use Rattle.std.specs.Int.{w128}
use Rattle.angle_arith.proofs.Integers.{product_arg, zero_factor}
use Rattle.angle_arith.proofs.arithmetic.angle_div.Goals as goal
use Rattle.angle_arith.proofs.arithmetic.angle_div.Goals.{After-new}

num_is : (c : After-new) → to_z w128 (of_z w128 c.num.result) ≡ c.args.a.num
num_is c = to_z-of_z w128 c.num.result (record { sfits = c.num.type_inv }) ∙ c.num.ensures.value

den_is : (c : After-new) → to_z w128 (of_z w128 (to_z w128 (of_z w128 c.den.result) *ℤ to_z w128 (of_z w128 c.args.k))) ≡ c.args.a.den *ℤ c.args.k
den_is c =
    let size : unsigned_abs c.den.result ≤ 2 ^ 62 = rw c.den.ensures.value c.den.ensures.lowest.small.den_size in
    let product = product_arg c.den.result c.args.k (record { sfits = c.den.type_inv }) c.ranges.k (2 ^ 62) (2 ^ 64) size c.requires (lit< tt) in
    cc

pub returns-clause-exact : goal.returns-clause-exact
returns-clause-exact c = rw (num_is c, den_is c) at c.new.ensures.exact

pub returns-clause-divide : goal.returns-clause-divide
returns-clause-divide c =
    let h = rw (den_is c) at c.new.ensures.divide in
    (λ e. zero_factor c.args.a.den c.args.k c.den.ensures.lowest.small.positive (h.0 e), λ none. h.1 (ap (λ k. c.args.a.den *ℤ k) none ∙ *ℤ-zero c.args.a.den))

pub returns-clause-range : goal.returns-clause-range
returns-clause-range c =
    let h = rw (num_is c, den_is c) at c.new.ensures.range in (
      λ e. (λ none. (h.0 e).0 (ap (λ k. c.args.a.den *ℤ k) none ∙ *ℤ-zero c.args.a.den), (h.0 e).1),
      λ p. h.1 (λ e. p.0 (zero_factor c.args.a.den c.args.k c.den.ensures.lowest.small.positive e), p.1),
    )
