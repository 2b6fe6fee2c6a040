use Rattle.std.proofs.Common.{[], ◌++◌, ◌∷◌, Ok, Err, IsUtf8, take, false, sym, refl, subst, inr}
use Rattle.std.proofs.lemmas.Str.{IsUtf8-take}
use Rattle.qasm_lexer.specs.Tokens.{IsNext}
use Rattle.qasm_lexer.proofs.LexRun.{SoFar, at_start, one_token_more, all_tokens, refused_there, gives_all, gives_refusal, some_token}
use Rattle.qasm_lexer.proofs.laws.texts_have_a_reading.Goals as goal

pub returns-in_default : goal.returns-in_default
returns-in_default c = (Err _, inr (_, c.in_default.ensures.cases.0, c.in_default.ensures.cases.1, refl))

pub loop-token-init : goal.loop-token-init
loop-token-init c =
    let start = at_start c.in-Ok.text.now [] (subst IsUtf8 (sym c.in-Ok.ensures.cases.0) c.in-Ok.ensures.cases.1) refl in
    ([], subst (λ at. SoFar c.in-Ok.text.now 0 at false []) start.place start)

pub end_of-at-requires-clause-utf8 : goal.end_of-at-requires-clause-utf8
end_of-at-requires-clause-utf8 c =
    let same = c.in-Ok.ensures.cases.0 in
    let front = IsUtf8-take c.in-Ok.text.now c.loop-token.from (subst IsUtf8 (sym same) c.in-Ok.ensures.cases.1) c.loop-token.invariant.1.boundary in
    subst (λ bytes. IsUtf8 (take c.loop-token.from bytes)) same front

pub loop-token-preserved : goal.loop-token-preserved
loop-token-preserved c =
    let before = c.loop-token.invariant in
    let token = c.in-Ok-Some.token in
    let next = some_token _ token c.in-Ok-Some.field-0-is c.in-Ok-Some.ensures in
    (before.0 ++ token ∷ [], one_token_more token _ _ _ before.1 next refl c.opens_version-version.ensures refl)

pub returns-in-Ok-None : goal.returns-in-Ok-None
returns-in-Ok-None c =
    let next = subst (λ r. IsNext c.in-Ok.text.now c.loop-token.from c.loop-token.version (Ok r)) c.in-Ok-None.field-0-is c.in-Ok-None.ensures in
    let before = c.loop-token.invariant in
    (Ok before.0, gives_all before.0 c.in-Ok.ensures.cases.0 c.in-Ok.ensures.cases.1 (all_tokens before.1 next))

pub returns-in-Err : goal.returns-in-Err
returns-in-Err c =
    let before = c.loop-token.invariant in
    (Err c.in-Err.field-0, gives_refusal _ c.in-Ok.ensures.cases.0 c.in-Ok.ensures.cases.1 (refused_there before.1 c.in-Err.ensures))
