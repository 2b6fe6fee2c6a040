use Rattle.std.proofs.Common.{◌≡◌, reverse, ◌∙◌, rules}
use Rattle.std.specs.Int.{w128}
use Rattle.std.proofs.lemmas.Int.{to_z-of_z}
use Rattle.qasm_types.specs.Values.{number_of_bits}
use Rattle.const_eval.proofs.Counting.{bits_at_angle}
use Rattle.const_eval.proofs.number.count_of.Goals as goal

pub returns-in-Bits-clause-count : goal.returns-in-Bits-clause-count
returns-in-Bits-clause-count c =
    let n = c.number_of_bits.result in
    let e : n ≡ number_of_bits (reverse c.in-Bits.bits.text) = search rules in
    let z = to_z-of_z w128 c.from.result (record { sfits = c.from.type_inv }) ∙ c.from.ensures in
    bits_at_angle c.args.constant.now c.in-Bits.bits c.args.width n _ c.in-Bits.is c.requires.row e (search rules) z
