use Rattle.std.proofs.Common.{sym, ◌∙◌}
use Rattle.qasm_lexer.specs.Characters.{is_digit_in}
use Rattle.qasm_lexer.proofs.Cutting.{chars_cut}
use Rattle.qasm_lexer.proofs.NumberFinds.{float_at_exponent, front_some, no_exponent_here}
use Rattle.qasm_lexer.proofs.numbers.number.Goals as goal

pub returns-then-is_some : goal.returns-then-is_some
returns-then-is_some c =
    float_at_exponent c.args.version c.skip_passing-point.ensures (front_some (is_digit_in 10) c.skip_passing-point.ensures _ _ (chars_cut c.requires.2) c.requires.1) c.skip_exponent.result (sym c.is_some.ensures ∙ c.if-is_some.true) c.skip_exponent.ensures

pub whole-requires-clause-no_exponent : goal.whole-requires-clause-no_exponent
whole-requires-clause-no_exponent c = no_exponent_here _ c.skip_exponent.result (sym c.is_some.ensures ∙ c.if-is_some.false) c.skip_exponent.ensures
