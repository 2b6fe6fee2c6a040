use Rattle.std.proofs.Common.{◌≡◌, ◌%◌, ◌^◌, drop}
use Rattle.qasm_types.specs.Values.{number_of_bits}
use Rattle.source_values.proofs.bits.lowest_number.Given as goal

abbrev pub invariant-loop-place : goal.invariant-loop-place
invariant-loop-place l = l.number ≡ number_of_bits (drop l.place l.bits) % 2 ^ 64
