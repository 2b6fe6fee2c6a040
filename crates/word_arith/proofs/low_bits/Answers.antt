use Rattle.std.proofs.Common.{◌≡◌, ℕ, ◌*◌, ◌-◌, ◌%◌, ◌^◌, ◌≤◌, pos, ◌-ℤ◌, bit_and, to_z, of_z, ap, ◌∙◌, sym, subst, arith}
use Rattle.std.proofs.Math.Nat.{mod-lt}
use Rattle.std.proofs.lemmas.Nat.{one_shl, and_mask, pow_pos}
use Rattle.std.proofs.lemmas.Int.{ints, to_z_pos}
use Rattle.std.specs.Int.{w128}
use Rattle.std.specs.Int.RustNames.{unsigned_abs}
use Rattle.std.proofs.Math.Pow.{pow_mono}
use Rattle.word_arith.specs.Whole.{IsCongruent}
use Rattle.word_arith.proofs.Congruence.{congruent_trans, int_rem_euclid-congruent, cast_unsigned-congruent}
use Rattle.word_arith.proofs.low_bits.Goals as goal

-- what the mask leaves of n
masked : (n k : ℕ) → k ≤ 64 → unsigned_abs (to_z w128 (bit_and n (of_z w128 (to_z w128 (1 * 2 ^ k % 2 ^ 128) -ℤ pos 1)))) ≡ n % 2 ^ k
masked n k h =
    let some = pow_pos k in
    let small = pow_mono h in
    let whole = one_shl k 128 (omega arith) in
    let mask : to_z w128 (1 * 2 ^ k % 2 ^ 128) -ℤ pos 1 ≡ pos (2 ^ k - 1) = omega (arith, ints, whole) in
    let below = mod-lt n some in
    ap (λ z. unsigned_abs (to_z w128 (bit_and n (of_z w128 z)))) mask
    ∙ ap (λ m. unsigned_abs (to_z w128 m)) (and_mask n k)
    ∙ ap unsigned_abs (to_z_pos w128 (n % 2 ^ k) (omega arith))

pub returns-clause-congruent : goal.returns-clause-congruent
returns-clause-congruent c =
    let x = c.args.x in
    let k = c.args.width in
    let n = of_z w128 x in
    let left : IsCongruent (2 ^ k) (pos (n % 2 ^ k)) x =
    congruent_trans (2 ^ k) (pos (n % 2 ^ k)) (pos n) x (int_rem_euclid-congruent (2 ^ k) (pos n) (pow_pos k)) (cast_unsigned-congruent w128 k x (omega (arith, c.requires)) c.ranges.x) in
    subst (λ (r : ℕ). IsCongruent (2 ^ k) (pos r) x) (sym (masked n k c.requires)) left
