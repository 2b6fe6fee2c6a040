use Rattle.std.proofs.Common.{◌≡◌, take, reverse}
use Rattle.qasm_types.specs.Values.{number_of_bits}
use Rattle.const_eval.proofs.number.number_of_bits.Given as goal

abbrev pub invariant-loop-bit : goal.invariant-loop-bit
invariant-loop-bit l = l.number ≡ number_of_bits (reverse (take l.bit-index l.bits))
