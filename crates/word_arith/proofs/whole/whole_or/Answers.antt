use Rattle.std.proofs.Common.{ap, ◌∙◌, max}
use Rattle.std.specs.Int.{w128}
use Rattle.std.specs.Int.Bits.{bit_or, or_lt}
use Rattle.std.proofs.lemmas.Nat.Bits.{bit_at_or}
use Rattle.word_arith.specs.Whole.{int_bit_at, int_or}
use Rattle.word_arith.proofs.Bits.{whole_from_bits, int_bit_at-or}
use Rattle.word_arith.proofs.whole.whole_or.Goals as goal

pub returns-clause-value : goal.returns-clause-value
returns-clause-value c = whole_from_bits bit_or max bit_at_or or_lt int_or int_bit_at-or w128 c.args.a c.args.b c.ranges.a c.ranges.b

pub returns-clause-bits : goal.returns-clause-bits
returns-clause-bits c i = ap (λ z. int_bit_at z i) (returns-clause-value c) ∙ int_bit_at-or c.args.a c.args.b i
