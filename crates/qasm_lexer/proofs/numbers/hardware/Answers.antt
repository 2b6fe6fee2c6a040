use Rattle.qasm_lexer.specs.Characters.{is_digit_in}
use Rattle.std.proofs.Common.{arith}
use Rattle.qasm_lexer.proofs.NumberSteps.{cut_nothing, passing_some}
use Rattle.qasm_lexer.proofs.WholeFinds.{hardware_found, hardware_too_large, lone_dollar}
use Rattle.qasm_lexer.proofs.numbers.hardware.Goals as goal

pub returns-then-end-digits : goal.returns-then-end-digits
returns-then-end-digits c = λ version. lone_dollar c.requires c.skip_passing-end.ensures version (cut_nothing c.skip_passing-end.ensures.cuts (omega (arith, c.if-end-digits.true)))

pub returns-in_default : goal.returns-in_default
returns-in_default c = λ version. hardware_too_large c.requires c.skip_passing-end.ensures version _ (passing_some (is_digit_in 10) c.skip_passing-end.ensures c.if-end-digits.false) c.front_of.ensures.whole c.in_default.ensures

pub returns : goal.returns
returns c = λ version. hardware_found c.requires c.skip_passing-end.ensures version _ _ (passing_some (is_digit_in 10) c.skip_passing-end.ensures c.if-end-digits.false) c.front_of.ensures.whole c.in-Some.ensures
