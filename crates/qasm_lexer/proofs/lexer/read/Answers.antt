use Rattle.std.proofs.Common.{Ok, IsUtf8, length, sym, ap, subst, arith}
use Rattle.qasm_lexer.specs.Tokens.{IsNext}
use Rattle.qasm_lexer.proofs.LexRun.{at_start, token_room, token_place, one_token_more, all_tokens, refused_there, gives_all, gives_refusal, some_token, pushed}
use Rattle.qasm_lexer.proofs.lexer.read.Goals as goal

pub loop-token-init : goal.loop-token-init
loop-token-init c = at_start c.in-Ok.source.now _ (subst IsUtf8 (sym c.in-Ok.ensures.cases.0) c.in-Ok.ensures.cases.1) c.new-tokens.ensures.items

pub returns-in-Ok-None : goal.returns-in-Ok-None
returns-in-Ok-None c =
    let next = subst (λ r. IsNext c.in-Ok.source.now c.loop-token.from c.loop-token.version (Ok r)) c.in-Ok-None.field-0-is c.in-Ok-None.ensures in
    record { found = gives_all _ c.in-Ok.ensures.cases.0 c.in-Ok.ensures.cases.1 (all_tokens c.loop-token.invariant next) }

pub returns-in-Err-next_token : goal.returns-in-Err-next_token
returns-in-Err-next_token c =
    record { found = gives_refusal _ c.in-Ok.ensures.cases.0 c.in-Ok.ensures.cases.1 (refused_there c.loop-token.invariant c.in-Err-next_token.ensures) }

pub place_behind-at-requires-clause-line : goal.place_behind-at-requires-clause-line
place_behind-at-requires-clause-line c =
    let next = some_token _ c.in-Ok-Some.token c.in-Ok-Some.field-0-is c.in-Ok-Some.ensures in
    let utf8 = subst IsUtf8 (sym c.in-Ok.ensures.cases.0) c.in-Ok.ensures.cases.1 in
    (token_room _ next utf8 (omega (arith, c.requires, ap length c.in-Ok.ensures.cases.0)) c.range.ensures.len).0

pub place_behind-at-requires-clause-column : goal.place_behind-at-requires-clause-column
place_behind-at-requires-clause-column c =
    let next = some_token _ c.in-Ok-Some.token c.in-Ok-Some.field-0-is c.in-Ok-Some.ensures in
    let utf8 = subst IsUtf8 (sym c.in-Ok.ensures.cases.0) c.in-Ok.ensures.cases.1 in
    (token_room _ next utf8 (omega (arith, c.requires, ap length c.in-Ok.ensures.cases.0)) c.range.ensures.len).1

pub loop-token-preserved : goal.loop-token-preserved
loop-token-preserved c =
    let next = some_token _ c.in-Ok-Some.token c.in-Ok-Some.field-0-is c.in-Ok-Some.ensures in
    let utf8 = subst IsUtf8 (sym c.in-Ok.ensures.cases.0) c.in-Ok.ensures.cases.1 in
    one_token_more c.in-Ok-Some.token c.place_behind-at.result c.opens_version-version.result c.push.new.self.items c.loop-token.invariant next
    (token_place c.range.result.now c.place_behind-at.result next utf8 c.range.ensures.value c.place_behind-at.ensures)
    c.opens_version-version.ensures
    (pushed c.loop-token.tokens.items c.push.new.self.items c.in-Ok-Some.token _ _ c.push.ensures.items c.is_err.ensures.negation c.if-is_err.false)
