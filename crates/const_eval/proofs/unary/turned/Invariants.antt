use Rattle.std.proofs.Common.{◌≡◌, take, map, not}
use Rattle.const_eval.proofs.unary.turned.Given as goal

abbrev pub invariant-loop-bit : goal.invariant-loop-bit
invariant-loop-bit l = l.turned.items ≡ map not (take l.bit-index l.bits.text)
