use Rattle.std.proofs.Common.{◌^◌, ◌-◌, ◌≤◌, pos, ◌*ℤ◌, FitsSigned, ap, ◌∙◌, lit<, arith, rules}
use Rattle.std.specs.Int.{w128}
use Rattle.std.specs.Int.RustNames.{unsigned_abs}
use Rattle.std.proofs.Math.Pow.{pow_mono}
use Rattle.std.proofs.lemmas.Int.{ints, fits_signed_mul, wrapping_mul_is, int_wrap_fits}
use Rattle.word_arith.proofs.Reduction.{value_of-read, value_of-given}
use Rattle.word_arith.proofs.shl.Goals as goal

pub returns-clause-value : goal.returns-clause-value
returns-clause-value c =
    let ty = c.args.ty in
    let x = c.value.result in
    let k = c.args.amount in
    let is_x = value_of-read ty c.args.a x c.ranges.a c.value.ensures.value in
    let below : k ≤ 63 = omega (arith, c.requires.below_width, ty.fits_i64) in
    let most = pow_mono below in
    let small : unsigned_abs x ≤ 2 ^ 64 - 1 = omega (arith, c.value.ensures.bound) in
    let fits_x : FitsSigned w128 x = search rules in
    let fits_k : FitsSigned w128 (pos (2 ^ k)) = omega (arith, ints) in
    let fits : FitsSigned w128 (x *ℤ pos (2 ^ k)) = fits_signed_mul w128 x (pos (2 ^ k)) (2 ^ 64 - 1) (2 ^ 63) small most (lit< tt) in
    let shifted = wrapping_mul_is w128 x (pos (2 ^ k)) fits_x fits_k ∙ int_wrap_fits w128 (x *ℤ pos (2 ^ k)) fits in
    value_of-given ty _ _ _ (search rules) c.wrap.ensures.value (shifted ∙ ap (λ z. z *ℤ pos (2 ^ k)) is_x)
