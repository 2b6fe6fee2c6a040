use Rattle.std.proofs.Common.{arith}
use Rattle.qir_lexer.proofs.Finding.{rest_is, front_size, front_digits, numbered_room, numbered_bad, numbered_good}
use Rattle.qir_lexer.proofs.piece.numbered_token.Goals as goal

pub slice_bounds-small_value-end : goal.slice_bounds-small_value-end
slice_bounds-small_value-end c = front_size _ _ c.count_while-count.ensures.count

pub small_value-requires : goal.small_value-requires
small_value-requires c = front_digits _ _ c.count_while-count.ensures.count

pub returns-in_default : goal.returns-in_default
returns-in_default c = numbered_bad c.args.sort c.args.skip c.count_while-count.result c.args.text.now _ (rest_is c.args.skip c.args.text.now) c.requires.front c.count_while-count.ensures.count c.if-count-eq0.false c.in_default.ensures

pub overflow_add-result : goal.overflow_add-result
overflow_add-result c =
    let room = numbered_room c.args.sort c.args.skip c.count_while-count.result c.args.text.now _ (rest_is c.args.skip c.args.text.now) c.requires.front c.count_while-count.ensures.count c.if-count-eq0.false c.requires.inside in
    omega (arith, room, c.requires.few)

pub returns : goal.returns
returns c = numbered_good c.args.sort c.args.skip c.count_while-count.result c.args.text.now _ (rest_is c.args.skip c.args.text.now) c.requires.front c.count_while-count.ensures.count c.if-count-eq0.false c.requires.inside c.in-Some.value _ (c.numbered_kind.ensures _) c.in-Some.ensures
