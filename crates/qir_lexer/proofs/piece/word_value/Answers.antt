use Rattle.std.proofs.Common.{sym, ◌∙◌}
use Rattle.qir_lexer.proofs.Finding.{word_minus}
use Rattle.qir_lexer.proofs.piece.word_value.Goals as goal

pub returns : goal.returns
returns c = word_minus c.args.negative c.args.digits.now c.in_ok-value.value c.if-not-negative.false (sym c.leads_with_zero.ensures ∙ c.if-leads_with_zero.false) c.in_ok-value.ensures c.if-value-eq0.false c.if-value-gt9223372036854775808.false
