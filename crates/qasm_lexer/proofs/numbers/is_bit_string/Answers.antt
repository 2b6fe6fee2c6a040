use Rattle.std.proofs.Common.{sym, ◌∙◌}
use Rattle.qasm_lexer.proofs.Cutting.{chars_cut}
use Rattle.qasm_lexer.proofs.NumberSteps.{numeral_test, numeral_false}
use Rattle.qasm_lexer.proofs.numbers.is_bit_string.Goals as goal

pub returns-then-is_digit : goal.returns-then-is_digit
returns-then-is_digit c =
    c.is_empty.ensures ∙ numeral_test _ _ (chars_cut c.in-Some.ensures) (sym c.is_digit.ensures.value ∙ c.if-is_digit.true) c.skip_digits.ensures

pub returns-else-is_digit : goal.returns-else-is_digit
returns-else-is_digit c =
    c.if-is_digit.false ∙ sym (numeral_false 2 _ _ _ (chars_cut c.in-Some.ensures) (sym c.is_digit.ensures.value ∙ c.if-is_digit.false))
