use Rattle.std.proofs.Common.{sym, ap, ◌∙◌, ◌∷◌, [], inr}
use Rattle.qasm_lexer.proofs.Cutting.{chars_cut, cut_twice, none_gives}
use Rattle.qasm_lexer.proofs.Numerals.{no_step_here, no_step_end, no_step_behind}
use Rattle.qasm_lexer.proofs.numbers.skip_step.Goals as goal

pub returns-then-first-ne95 : goal.returns-then-first-ne95
returns-then-first-ne95 c =
    no_step_here _ _ _ _ (chars_cut c.in_ok-first.ensures) (sym c.is_digit.ensures.value ∙ c.if-is_digit.false) c.if-first-ne95.true

pub returns-in_err-second : goal.returns-in_err-second
returns-in_err-second c =
    none_gives _ _ _ c.from_residual-in_err-second.ensures (no_step_end _ _ _ _ (chars_cut c.in_ok-first.ensures) c.in_err-second.ensures (sym c.is_digit.ensures.value ∙ c.if-is_digit.false))

pub returns-then-is_digit-2 : goal.returns-then-is_digit-2
returns-then-is_digit-2 c =
    (_, cut_twice c.in_ok-first.ensures c.in_ok-second.ensures, (c.in_ok-second.second, sym c.is_digit-2.ensures.value ∙ c.if-is_digit-2.true, inr (ap (λ x. x ∷ c.in_ok-second.second ∷ []) c.if-first-ne95.false)))

pub returns-else-is_digit-2 : goal.returns-else-is_digit-2
returns-else-is_digit-2 c =
    no_step_behind _ _ _ _ _ _ (chars_cut c.in_ok-first.ensures) (chars_cut c.in_ok-second.ensures) (sym c.is_digit.ensures.value ∙ c.if-is_digit.false) (sym c.is_digit-2.ensures.value ∙ c.if-is_digit-2.false)
