use Rattle.std.proofs.Common.{ap, ◌∙◌, min}
use Rattle.std.specs.Int.{w128}
use Rattle.std.specs.Int.Bits.{bit_and, and_lt}
use Rattle.std.proofs.lemmas.Nat.Bits.{bit_at_and}
use Rattle.word_arith.specs.Whole.{int_bit_at, int_and}
use Rattle.word_arith.proofs.Bits.{whole_from_bits, int_bit_at-and}
use Rattle.word_arith.proofs.whole.whole_and.Goals as goal

pub returns-clause-value : goal.returns-clause-value
returns-clause-value c = whole_from_bits bit_and min bit_at_and and_lt int_and int_bit_at-and w128 c.args.a c.args.b c.ranges.a c.ranges.b

pub returns-clause-bits : goal.returns-clause-bits
returns-clause-bits c i = ap (λ z. int_bit_at z i) (returns-clause-value c) ∙ int_bit_at-and c.args.a c.args.b i
