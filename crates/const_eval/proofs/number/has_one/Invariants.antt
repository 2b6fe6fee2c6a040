use Rattle.std.proofs.Common.{◌≡◌, take, reverse}
use Rattle.qasm_types.specs.Values.{number_of_bits}
use Rattle.const_eval.proofs.number.has_one.Given as goal

-- no bit so far is 1
abbrev pub invariant-loop-bit : goal.invariant-loop-bit
invariant-loop-bit l = number_of_bits (reverse (take l.bit-index l.bits)) ≡ 0
