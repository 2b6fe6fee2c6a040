use Rattle.std.proofs.Common.{sym, ◌∙◌, arith}
use Rattle.qasm_lexer.proofs.Cutting.{chars_cut}
use Rattle.qasm_lexer.specs.Characters.{begins_name, is_digit_in}
use Rattle.qasm_lexer.proofs.Passing.{stops_cons, skips_none}
use Rattle.qasm_lexer.proofs.PieceFinds.{begins_here, not_equal, no_quotes}
use Rattle.qasm_lexer.proofs.pieces.first_token.Goals as goal

pub name-requires : goal.name-requires
name-requires c = begins_here begins_name _ _ _ (chars_cut c.requires.cut) (sym c.begins_name.ensures ∙ c.if-begins_name.true)

pub returns-then-begins_name : goal.returns-then-begins_name
returns-then-begins_name c = c.name.ensures c.args.version

pub pointed-requires-clause-digits : goal.pointed-requires-clause-digits
pointed-requires-clause-digits c =
    skips_none (is_digit_in 10) c.utf8.text (stops_cons (is_digit_in 10) _ _ _ (chars_cut c.requires.cut) (sym c.is_digit.ensures.value ∙ c.if-is_digit.false))

pub mark-requires : goal.mark-requires
mark-requires c = (c.args.first, _, chars_cut c.requires.cut, record { no_name = sym c.begins_name.ensures ∙ c.if-begins_name.false; no_digit = sym c.is_digit.ensures.value ∙ c.if-is_digit.false; no_point = not_equal c.args.first 46 (λ e. omega arith); no_quote = no_quotes c.args.first (λ e. omega arith) (λ e. omega arith); no_dollar = not_equal c.args.first 36 (λ e. omega arith); no_blank = c.requires.no_blank })

pub returns-in-34 : goal.returns-in-34
returns-in-34 c = c.quoted.ensures c.args.version

pub returns-in-39 : goal.returns-in-39
returns-in-39 c = c.quoted-in-39.ensures c.args.version

pub returns-in-36 : goal.returns-in-36
returns-in-36 c = c.hardware.ensures c.args.version

pub returns-in_default : goal.returns-in_default
returns-in_default c = c.mark.ensures c.args.version
