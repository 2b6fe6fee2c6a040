use Rattle.std.proofs.Common.{◌≡◌, ◌-◌, ◌/◌, ◌^◌, pos, reverse}
use Rattle.qasm_types.specs.Values.{bits_of}
use Rattle.const_eval.proofs.cast.pattern.Given as goal

-- the bits so far are the highest ones
abbrev pub invariant-loop-passed : goal.invariant-loop-passed
invariant-loop-passed l = reverse l.bits.items ≡ bits_of l.passed (pos (l.number / 2 ^ (l.width - l.passed)))
