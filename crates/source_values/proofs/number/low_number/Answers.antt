use Rattle.std.proofs.Common.{◌∙◌, ◌%◌, ◌^◌, ℤ, pos, ap, sym, subst}
use Rattle.std.specs.Int.{w128}
use Rattle.std.proofs.lemmas.Int.{to_z-of_z}
use Rattle.word_arith.specs.Whole.{IsCongruent}
use Rattle.qasm_types.specs.Types.{IsWholeConstant}
use Rattle.qasm_types.specs.Values.{number_of, number_of_bits}
use Rattle.source_values.specs.Seen.{seen}
use Rattle.source_values.proofs.Reducing.{same_congruent, rest_congruent}
use Rattle.source_values.proofs.number.low_number.Goals as goal

pub returns-in_default : goal.returns-in_default
returns-in_default c =
    let back = to_z-of_z w128 c.number.result (record { sfits = c.number.type_inv }) in
    record { congruent = same_congruent _ _ (back ∙ c.number.ensures.number); range = subst (λ (z : ℤ). IsWholeConstant z) (sym back) c.number.ensures.range }

pub returns-in-Bits-clause-congruent : goal.returns-in-Bits-clause-congruent
returns-in-Bits-clause-congruent c =
    let back = to_z-of_z w128 c.from.result (record { sfits = c.from.type_inv }) in
    let bits = c.in-Bits.register.bits.items in
    let low = back ∙ c.from.ensures ∙ ap pos (c.lowest_number.ensures ∙ ap (λ xs. number_of_bits xs % 2 ^ 64) c.deref.ensures.value) in
    let whole = ap (λ v. number_of (seen v).value) c.in-Bits.is in
    subst (λ (z : ℤ). IsCongruent (2 ^ 64) z (number_of (seen c.args.value.now).value)) (sym low)
    (subst (λ (z : ℤ). IsCongruent (2 ^ 64) (pos (number_of_bits bits % 2 ^ 64)) z) (sym whole) (rest_congruent (number_of_bits bits)))
