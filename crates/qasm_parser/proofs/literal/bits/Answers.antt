use Rattle.std.proofs.Common.{Some, sym, ap, ◌∙◌}
use Rattle.qasm_parser.proofs.literal.bits.Goals as goal

pub returns-in-Ok-clause-value : goal.returns-in-Ok-clause-value
returns-in-Ok-clause-value c = ap (λ l. Some l) c.in-Ok.ensures ∙ sym (c.bits_are_digits.ensures c.args.spelling.now (sym c.is_bits.ensures ∙ c.if-is_bits.true))
