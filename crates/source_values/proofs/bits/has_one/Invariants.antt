use Rattle.std.proofs.Common.{◌≡◌, drop, pos}
use Rattle.std.specs.Ordering.{int_eq}
use Rattle.qasm_types.specs.Values.{number_of_bits}
use Rattle.source_values.proofs.bits.has_one.Given as goal

abbrev pub invariant-loop-bit : goal.invariant-loop-bit
invariant-loop-bit l = int_eq (pos (number_of_bits l.bits)) (pos 0) ≡ int_eq (pos (number_of_bits (drop l.bit-index l.bits))) (pos 0)
