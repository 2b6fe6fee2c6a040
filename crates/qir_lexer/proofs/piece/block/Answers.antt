use Rattle.std.proofs.Common.{arith}
use Rattle.qir_lexer.proofs.Finding.{rest_is, front_digits, heads_at, block_bad, block_good}
use Rattle.qir_lexer.proofs.piece.block.Goals as goal

pub small_value-requires : goal.small_value-requires
small_value-requires c = front_digits _ _ c.count_while-count.ensures.count

pub returns-in_default : goal.returns-in_default
returns-in_default c =
    block_bad c.args.text.now _ c.count_while-count.result (rest_is 1 c.args.text.now) c.count_while-count.ensures.count c.if-count-eq0.false (heads_at 58 _ c.count_while-count.result (omega (arith, c.count_while-count.ensures.inside, c.if-count-digits.false)) c.if-digits-count-ne58.false) c.requires.first c.in_default.ensures

pub returns : goal.returns
returns c =
    block_good c.args.text.now _ c.count_while-count.result (rest_is 1 c.args.text.now) c.count_while-count.ensures.count c.if-count-eq0.false (heads_at 58 _ c.count_while-count.result (omega (arith, c.count_while-count.ensures.inside, c.if-count-digits.false)) c.if-digits-count-ne58.false) c.requires.first c.in-Some.value c.in-Some.ensures
