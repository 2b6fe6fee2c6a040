use Rattle.std.proofs.Common.{inl, inr, ⊎_elim}
use Rattle.qasm_lexer.specs.Characters.{is_digit_in}
use Rattle.qasm_lexer.proofs.Cutting.{chars_cut}
use Rattle.qasm_lexer.proofs.NumberSteps.{no_exponent_letter, no_exponent_digits, exponent_skipped, passing_none, passing_some}
use Rattle.qasm_lexer.proofs.numbers.skip_exponent.Goals as goal

pub returns-then-letter-ne69 : goal.returns-then-letter-ne69
returns-then-letter-ne69 c = no_exponent_letter _ _ _ (chars_cut c.in_ok-letter.ensures) c.if-letter-ne101.true c.if-letter-ne69.true

pub returns-then-end-digits : goal.returns-then-end-digits
returns-then-end-digits c =
    no_exponent_digits _ _ _ _ (chars_cut c.in_ok-letter.ensures) c.skip_sign-digits.ensures (passing_none (is_digit_in 10) c.skip_passing-end.ensures c.if-end-digits.true)

pub returns : goal.returns
returns c =
    exponent_skipped c.in_ok-letter.ensures (⊎_elim (λ h. inr h.1) (λ h. inl h) c.else-letter-ne101.either) c.skip_sign-digits.ensures c.skip_passing-end.ensures (passing_some (is_digit_in 10) c.skip_passing-end.ensures c.if-end-digits.false)
