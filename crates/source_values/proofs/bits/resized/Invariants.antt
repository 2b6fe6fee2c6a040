use Rattle.std.proofs.Common.{◌≡◌, ◌-◌, ◌++◌, length, drop, pos}
use Rattle.qasm_types.specs.Values.{bits_of, number_of_bits}
use Rattle.source_values.proofs.bits.resized.Given as goal

abbrev pub invariant-loop-place : goal.invariant-loop-place
invariant-loop-place l = record {
  bits : l.others.items ++ bits_of (l.width - l.place) (pos (number_of_bits (drop l.place l.bits))) ≡ bits_of l.width (pos (number_of_bits l.bits));
  count : length l.others.items ≡ l.place;
}
