use Rattle.std.proofs.Common.{ap, ◌∙◌, ◌+◌, ◌%◌}
use Rattle.std.specs.Int.{w128}
use Rattle.std.specs.Int.Bits.{bit_xor, xor_lt}
use Rattle.std.proofs.lemmas.Nat.Bits.{bit_at_xor}
use Rattle.word_arith.specs.Whole.{int_bit_at, int_xor}
use Rattle.word_arith.proofs.Bits.{whole_from_bits, int_bit_at-xor}
use Rattle.word_arith.proofs.whole.whole_xor.Goals as goal

pub returns-clause-value : goal.returns-clause-value
returns-clause-value c = whole_from_bits bit_xor (λ p q. (p + q) % 2) bit_at_xor xor_lt int_xor int_bit_at-xor w128 c.args.a c.args.b c.ranges.a c.ranges.b

pub returns-clause-bits : goal.returns-clause-bits
returns-clause-bits c i = ap (λ z. int_bit_at z i) (returns-clause-value c) ∙ int_bit_at-xor c.args.a c.args.b i
