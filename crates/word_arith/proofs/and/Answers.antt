use Rattle.std.proofs.Common.{min}
use Rattle.std.specs.Int.Bits.{bit_and, and_lt}
use Rattle.std.proofs.lemmas.Nat.Bits.{bit_at_and}
use Rattle.word_arith.specs.Whole.{int_and}
use Rattle.word_arith.proofs.Bits.{bits_of_word, word_of_bits, value_of_bits, int_bit_at-and}
use Rattle.word_arith.proofs.and.Goals as goal

pub returns-clause-value : goal.returns-clause-value
returns-clause-value c = value_of_bits bit_and min bit_at_and and_lt c.args.ty c.args.a c.args.b c.ranges.a c.ranges.b int_and int_bit_at-and c.requires.first c.requires.second

pub returns-clause-word : goal.returns-clause-word
returns-clause-word c = word_of_bits bit_and min bit_at_and and_lt c.args.ty c.args.a c.args.b c.ranges.a c.ranges.b c.requires.first c.requires.second

pub returns-clause-bits : goal.returns-clause-bits
returns-clause-bits c = bits_of_word bit_and min bit_at_and and_lt c.args.ty c.args.a c.args.b c.ranges.a c.ranges.b
