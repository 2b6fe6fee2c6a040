use Rattle.std.proofs.Common.{sym, ◌∙◌}
use Rattle.qasm_lexer.proofs.Cutting.{chars_cut, none_gives}
use Rattle.qasm_lexer.proofs.NumberSteps.{no_based_short, no_based_letter, no_based_end, no_based_zero, no_based_digit, based_skipped}
use Rattle.qasm_lexer.proofs.numbers.skip_based.Goals as goal
use Rattle.qasm_lexer.proofs.numbers.skip_based.Goals.{then-zero-ne48-via-then-zero-ne48, then-zero-ne48-via-else-zero-ne48+then-not-is_digit}

pub returns-in_err-letter : goal.returns-in_err-letter
returns-in_err-letter c =
    none_gives _ _ _ c.from_residual-in_err-letter.ensures (no_based_short _ _ _ (chars_cut c.in_ok-zero.ensures) c.in_err-letter.ensures)

pub returns-in_err-base : goal.returns-in_err-base
returns-in_err-base c =
    none_gives _ _ _ c.from_residual-in_err-base.ensures (no_based_letter _ _ _ _ _ (chars_cut c.in_ok-zero.ensures) (chars_cut c.in_ok-letter.ensures) c.in_err-base.ensures)

pub returns-in_err-digit : goal.returns-in_err-digit
returns-in_err-digit c =
    none_gives _ _ _ c.from_residual-in_err-digit.ensures (no_based_end _ _ _ _ _ (chars_cut c.in_ok-zero.ensures) (chars_cut c.in_ok-letter.ensures) c.in_err-digit.ensures)

pub returns-then-zero-ne48 : goal.returns-then-zero-ne48
returns-then-zero-ne48 c =
    elim c.then-zero-ne48.branch [
      | then-zero-ne48-via-then-zero-ne48 w ↦ no_based_zero _ _ _ (chars_cut c.in_ok-zero.ensures) w.if-zero-ne48.true
      | then-zero-ne48-via-else-zero-ne48+then-not-is_digit w ↦
          no_based_digit _ _ _ _ _ _ _ _ (chars_cut c.in_ok-zero.ensures) (chars_cut c.in_ok-letter.ensures) (chars_cut c.in_ok-digit.ensures) c.in_ok-base.ensures (sym w.is_digit.ensures.value ∙ w.if-not-is_digit.true)
    ]

pub returns : goal.returns
returns c = based_skipped c.in_ok-zero.ensures c.if-zero-ne48.false c.in_ok-letter.ensures c.in_ok-base.ensures c.in_ok-digit.ensures (sym c.is_digit.ensures.value ∙ c.if-not-is_digit.false) c.skip_digits.ensures
