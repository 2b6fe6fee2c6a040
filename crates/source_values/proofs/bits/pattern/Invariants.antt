use Rattle.std.proofs.Common.{◌≡◌, ◌-◌, ◌++◌, length}
use Rattle.qasm_types.specs.Values.{bits_of}
use Rattle.source_values.proofs.bits.pattern.Given as goal

abbrev pub invariant-loop : goal.invariant-loop
invariant-loop l = record {
  bits : l.bits.items ++ bits_of (l.width - l.counter) l.rest ≡ bits_of l.width l.number;
  count : length l.bits.items ≡ l.counter;
}
