use Rattle.std.proofs.Common.{arith}
use Rattle.qir_lexer.proofs.Readings.{token_room, token_size, token_place, one_token_more, all_tokens, refused_there, some_token, no_token, pushed}
use Rattle.qir_lexer.proofs.lexer.read.Goals as goal

pub returns-in-Ok-None : goal.returns-in-Ok-None
returns-in-Ok-None c = all_tokens c.loop-token.invariant (no_token _ c.in-Ok-None.field-0-is c.in-Ok-None.ensures)

pub returns-in-Err : goal.returns-in-Err
returns-in-Err c = refused_there _ c.loop-token.invariant c.in-Err.ensures

pub place_behind-at-requires-clause-line : goal.place_behind-at-requires-clause-line
place_behind-at-requires-clause-line c =
    let next = some_token _ c.in-Ok-Some.token c.in-Ok-Some.field-0-is c.in-Ok-Some.ensures in
    omega (arith, (token_room c.in-Ok-Some.token next c.requires).0, token_size c.in-Ok-Some.token next)

pub place_behind-at-requires-clause-column : goal.place_behind-at-requires-clause-column
place_behind-at-requires-clause-column c =
    let next = some_token _ c.in-Ok-Some.token c.in-Ok-Some.field-0-is c.in-Ok-Some.ensures in
    omega (arith, (token_room c.in-Ok-Some.token next c.requires).1, token_size c.in-Ok-Some.token next)

pub loop-token-preserved : goal.loop-token-preserved
loop-token-preserved c =
    let next = some_token _ c.in-Ok-Some.token c.in-Ok-Some.field-0-is c.in-Ok-Some.ensures in
    one_token_more c.in-Ok-Some.token c.place_behind-at.result c.push.new.self.items c.loop-token.invariant next
    (token_place c.in-Ok-Some.token c.place_behind-at.result next c.place_behind-at.ensures)
    (pushed c.loop-token.tokens.items c.push.new.self.items c.in-Ok-Some.token _ _ c.push.ensures.items c.is_err.ensures.negation c.if-is_err.false)
