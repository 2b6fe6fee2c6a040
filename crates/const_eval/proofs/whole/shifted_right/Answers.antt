use Rattle.std.proofs.Common.{◌≡◌, ◌≤◌, ◌∙◌, ◌^◌, ℤ, pos, false, cond, Some, None, sym, ap, arith}
use Rattle.std.specs.Int.{w128, int_div_euclid}
use Rattle.std.specs.Int.RustNames.{unsigned_abs, int_lt}
use Rattle.std.proofs.lemmas.Int.{ints, to_z-of_z}
use Rattle.const_eval.proofs.Powers.{shifted_right-most}
use Rattle.const_eval.proofs.whole.shifted_right.Goals as goal

far : (a : ℤ) → int_lt a (pos 0) ≡ false → int_lt a (pos 64) ≡ false → 64 ≤ unsigned_abs a
far a g h = grind (arith, ints)

pub returns-else-amount-lt64 : goal.returns-else-amount-lt64
returns-else-amount-lt64 c =
    let x = c.args.number in
    let a = c.args.amount in
    let p = c.power_of_two-else-amount-lt64 in
    let d = c.div_euclid-else-amount-lt64 in
    let same_a = to_z-of_z w128 a c.ranges.amount in
    let same_x = to_z-of_z w128 x c.ranges.number in
    let below : int_lt a (pos 0) ≡ false = ap (λ z. int_lt z (pos 0)) (sym same_a) ∙ c.if-amount-lt0.false in
    let small : int_lt a (pos 64) ≡ false = ap (λ z. int_lt z (pos 64)) (sym same_a) ∙ c.if-amount-lt64.false in
    let divisor = to_z-of_z w128 p.result (record { sfits = p.type_inv }) ∙ p.ensures in
    let value : d.result ≡ int_div_euclid x (pos (2 ^ unsigned_abs a)) = d.ensures ∙ (λ i. int_div_euclid (same_x i) (divisor i)) ∙ shifted_right-most x (unsigned_abs a) c.requires (far a below small) in
    let given = to_z-of_z w128 d.result (record { sfits = d.type_inv }) ∙ value in
    ap Some given ∙ ap (λ b. cond b None (Some (int_div_euclid x (pos (2 ^ unsigned_abs a))))) (sym below)
