use Rattle.std.proofs.Common.{◌^◌, ◌≤◌, ◌*ℤ◌, FitsSigned, ◌∙◌, lit<, arith, rules}
use Rattle.std.specs.Int.{w128}
use Rattle.std.specs.Int.RustNames.{unsigned_abs}
use Rattle.std.proofs.lemmas.Int.{ints, to_z-of_z, fits_signed_mul}
use Rattle.word_arith.specs.WordTy.{value_of}
use Rattle.word_arith.proofs.Congruence.{congruent_sym, congruent_mul}
use Rattle.word_arith.proofs.Reduction.{reduced-congruent, value_of-congruent, value_of-given}
use Rattle.word_arith.proofs.mul.Goals as goal

pub returns-clause-value : goal.returns-clause-value
returns-clause-value c =
    let ty = c.args.ty in
    let a = c.args.a in
    let b = c.args.b in
    let m = 2 ^ ty.width in
    let small_a : unsigned_abs a ≤ 2 ^ 63 = omega (arith, ints) in
    let small_b : unsigned_abs b ≤ 2 ^ 63 = omega (arith, ints) in
    let fits : FitsSigned w128 (a *ℤ b) = fits_signed_mul w128 a b (2 ^ 63) (2 ^ 63) small_a small_b (lit< tt) in
    let near = congruent_mul m (value_of ty a) a (value_of ty b) b (value_of-congruent ty a c.ranges.a) (value_of-congruent ty b c.ranges.b) in
    value_of-given ty _ _ (a *ℤ b) (search rules) c.wrap.ensures.value (grind (arith, to_z-of_z)) ∙ reduced-congruent ty _ _ (congruent_sym m _ _ near)
