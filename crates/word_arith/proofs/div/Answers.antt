use Rattle.std.proofs.Common.{pos, ◌<ℤ◌, FitsSigned, ◌∙◌, arith, rules}
use Rattle.std.specs.Int.{w128}
use Rattle.std.specs.Int.RustNames.{int_div}
use Rattle.std.proofs.lemmas.Int.{ints, quot_is, quot_fits}
use Rattle.word_arith.proofs.Reduction.{value_of-positive, value_of-read, value_of-given}
use Rattle.word_arith.proofs.div.Goals as goal

pub returns-clause-value : goal.returns-clause-value
returns-clause-value c =
    let ty = c.args.ty in
    let x = c.value.result in
    let y = c.value-2.result in
    let is_x = value_of-read ty c.args.a x c.ranges.a c.value.ensures.value in
    let is_y = value_of-read ty c.args.b y c.ranges.b c.value-2.ensures.value in
    let worth = value_of-positive ty c.args.b (omega (arith, ints)) in
    let from_one : pos 0 <ℤ y = omega (arith, ints, is_y, worth) in
    let fits_a : FitsSigned w128 x = search rules in
    let fits_b : FitsSigned w128 y = search rules in
    value_of-given ty _ _ _ (search rules) c.wrap.ensures.value (quot_is w128 x y fits_a fits_b (quot_fits w128 _ _ fits_a from_one) ∙ (λ i. int_div (is_x i) (is_y i)))
