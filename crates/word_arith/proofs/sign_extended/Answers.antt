use Rattle.std.proofs.Common.{◌-◌, ◌^◌, ◌≤◌, pos, arith}
use Rattle.std.proofs.Math.Pow.{pow_mono}
use Rattle.std.proofs.lemmas.Nat.{one_shl}
use Rattle.std.proofs.lemmas.Int.{ints}
use Rattle.word_arith.proofs.Congruence.{congruent_from_multiples}
use Rattle.word_arith.proofs.Reduction.{pow_halves}
use Rattle.word_arith.proofs.sign_extended.Goals as goal

pub returns-then-low-width-clause-congruent : goal.returns-then-low-width-clause-congruent
returns-then-low-width-clause-congruent c =
    let n = c.args.width in
    let top : n - 1 ≤ 63 = omega (arith, c.requires.fits_i64) in
    let most = pow_mono top in
    let half = one_shl (n - 1) 64 (omega (arith, top)) in
    congruent_from_multiples (2 ^ n) _ (pos c.args.low) 0 0 (omega (arith, ints))

pub returns-else-low-width-clause-congruent : goal.returns-else-low-width-clause-congruent
returns-else-low-width-clause-congruent c =
    let n = c.args.width in
    let top : n - 1 ≤ 63 = omega (arith, c.requires.fits_i64) in
    let most = pow_mono top in
    let half = one_shl (n - 1) 64 (omega (arith, top)) in
    let whole = one_shl n 128 (omega (arith, c.requires.fits_i64)) in
    let twice = pow_halves n c.requires.has_bits in
    congruent_from_multiples (2 ^ n) _ (pos c.args.low) 1 0 (omega (arith, ints))
