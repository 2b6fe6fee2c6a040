use Rattle.std.proofs.Common.{◌≡◌, pos, ◌<◌, ◌/◌, ◌∙◌, sym, refl, arith, to_z, of_z, unsigned_abs, ap, subst₂}
use Rattle.std.proofs.lemmas.Int.{to_z-of_z, to_z_pos}
use Rattle.std.specs.Int.{w128}
use Rattle.angle_arith.specs.Fraction.{fraction_of, IsSameFraction, IsLowestTerms}
use Rattle.angle_arith.proofs.LowestTerms as quotient
use Rattle.angle_arith.proofs.LowestTerms.{differ, signed}
use Rattle.angle_arith.proofs.fraction.lowest_terms.Goals as goal
use Rattle.angle_arith.proofs.fraction.lowest_terms.Goals.{After-greatest_common_divisor-common, After-signed}

num_size_is : (c : After-greatest_common_divisor-common) → c.unsigned_abs-num_size.result ≡ unsigned_abs c.args.num
num_size_is c = c.unsigned_abs-num_size.ensures.value ∙ ap unsigned_abs (to_z-of_z w128 c.args.num c.ranges.num)

den_size_is : (c : After-greatest_common_divisor-common) → c.unsigned_abs-den_size.result ≡ unsigned_abs c.args.den
den_size_is c = c.unsigned_abs-den_size.ensures.value ∙ ap unsigned_abs (to_z-of_z w128 c.args.den c.ranges.den)

some_divisor : (c : After-greatest_common_divisor-common) → 0 < c.greatest_common_divisor-common.result
some_divisor c = quotient.some_divisor c.args.num c.args.den _ _ _ (num_size_is c) (den_size_is c) c.requires c.greatest_common_divisor-common.ensures

pub nonzero_div-lowest_num : goal.nonzero_div-lowest_num
nonzero_div-lowest_num c = some_divisor c

pub nonzero_div-lowest_den : goal.nonzero_div-lowest_den
nonzero_div-lowest_den c = some_divisor c

-- a number over the limit leaves no fraction in range
pub returns-then-lowest_num-gt-LIMIT-clause-range : goal.returns-then-lowest_num-gt-LIMIT-clause-range
returns-then-lowest_num-gt-LIMIT-clause-range c =
    let b = (goal.at.returns-then-lowest_num-gt-LIMIT-clause-range c).After-greatest_common_divisor-common in
    let over_limit = c.then-lowest_num-gt-LIMIT.either in (
      λ _ range.
          let sizes = quotient.sizes_from_range c.args.num c.args.den _ _ _ (num_size_is b) (den_size_is b) c.requires c.greatest_common_divisor-common.ensures range in
          omega arith,
      λ _. refl,
    )

num_is : (c : After-signed) → to_z w128 (of_z w128 c.signed.result) ≡ signed (differ c.args.num c.args.den) (c.unsigned_abs-num_size.result / c.greatest_common_divisor-common.result)
num_is c =
    let whole = to_z-of_z w128 c.signed.result (record { sfits = c.signed.type_inv }) in
    let num_arg = to_z-of_z w128 c.args.num c.ranges.num in
    let den_arg = to_z-of_z w128 c.args.den c.ranges.den in
    cc

den_is : (c : After-signed) → to_z w128 (c.unsigned_abs-den_size.result / c.greatest_common_divisor-common.result) ≡ pos (c.unsigned_abs-den_size.result / c.greatest_common_divisor-common.result)
den_is c = to_z_pos w128 _ (omega arith)

pub invariant_of-result : goal.invariant_of-result
invariant_of-result c =
    let b = (goal.at.invariant_of-result c).After-greatest_common_divisor-common in
    let sizes = quotient.lowest c.args.num c.args.den _ _ _ (num_size_is b) (den_size_is b) c.requires c.greatest_common_divisor-common.ensures c.if-lowest_num-gt-LIMIT.false c.if-lowest_den-gt-LIMIT.false in
    subst₂ (λ n d. IsLowestTerms (fraction_of n d)) (sym (num_is c)) (sym (den_is c)) sizes

pub returns-clause-exact : goal.returns-clause-exact
returns-clause-exact c =
    let b = (goal.at.invariant_of-result c).After-greatest_common_divisor-common in
    let same = quotient.same c.args.num c.args.den _ _ _ (num_size_is b) (den_size_is b) c.requires c.greatest_common_divisor-common.ensures in
    subst₂ (λ n d. IsSameFraction (fraction_of n d) (fraction_of c.args.num c.args.den)) (sym (num_is c)) (sym (den_is c)) same

pub returns-clause-lowest : goal.returns-clause-lowest
returns-clause-lowest c = invariant_of-result c

pub returns-clause-range : goal.returns-clause-range
returns-clause-range c =
    (λ e. absurd cc, λ none. absurd (none (_, (invariant_of-result c).small, returns-clause-exact c)))
