use Rattle.std.proofs.Common.{◌≡◌, ◌++◌, false, replicate}
use Rattle.const_eval.proofs.register.add_zeros.Given as goal

-- so many zeros stand behind the bits
abbrev pub invariant-loop : goal.invariant-loop
invariant-loop l = l.bits.items ≡ l.initial.bits.items ++ replicate l.counter false
