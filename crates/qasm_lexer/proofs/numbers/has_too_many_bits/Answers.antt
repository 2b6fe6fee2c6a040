use Rattle.std.specs.Str.{chars}
use Rattle.std.proofs.Common.{sym, ◌∙◌}
use Rattle.qasm_lexer.proofs.NumberSteps.{bits_test}
use Rattle.qasm_lexer.proofs.numbers.has_too_many_bits.Goals as goal

pub returns-then-is_bit_string : goal.returns-then-is_bit_string
returns-then-is_bit_string c = bits_test (chars c.args.text.now) c.bit_count.result (sym c.is_bit_string.ensures ∙ c.if-is_bit_string.true) c.bit_count.ensures
