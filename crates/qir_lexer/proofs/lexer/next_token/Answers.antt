use Rattle.std.proofs.Common.{◌≡◌, ◌+◌, ◌-◌, length, take, drop, ap, ◌∙◌, arith}
use Rattle.std.proofs.lemmas.List.{drop_more, length-take-le, length-drop}
use Rattle.qir_module.specs.Tokens.{place_behind}
use Rattle.qir_lexer.proofs.Finding.{rest_is}
use Rattle.qir_lexer.proofs.Readings.{place_room, place_on, start_inside, holds_at, next_ok, next_err}
use Rattle.qir_lexer.proofs.lexer.next_token.Goals as goal

pub place_behind-at-requires-clause-line : goal.place_behind-at-requires-clause-line
place_behind-at-requires-clause-line c =
    let inside = start_inside c.args.text.now c.args.from c.gap_size-size.result _ (rest_is c.args.from c.args.text.now) c.requires.inside c.gap_size-size.ensures in
    let room = place_room c.args.text.now c.args.from c.args.at c.gap_size-size.result c.requires.place c.requires.length inside in
    omega (arith, room.0, length-take-le (c.args.from + c.gap_size-size.result - c.args.from) (drop c.args.from c.args.text.now) (omega (arith, inside, length-drop c.args.from c.args.text.now)))

pub place_behind-at-requires-clause-column : goal.place_behind-at-requires-clause-column
place_behind-at-requires-clause-column c =
    let inside = start_inside c.args.text.now c.args.from c.gap_size-size.result _ (rest_is c.args.from c.args.text.now) c.requires.inside c.gap_size-size.ensures in
    let room = place_room c.args.text.now c.args.from c.args.at c.gap_size-size.result c.requires.place c.requires.length inside in
    omega (arith, room.1, length-take-le (c.args.from + c.gap_size-size.result - c.args.from) (drop c.args.from c.args.text.now) (omega (arith, inside, length-drop c.args.from c.args.text.now)))

pub overflow_add-result : goal.overflow_add-result
overflow_add-result c =
    let inside = start_inside c.args.text.now c.args.from c.gap_size-size.result _ (rest_is c.args.from c.args.text.now) c.requires.inside c.gap_size-size.ensures in
    let e = rest_is (c.args.from + c.gap_size-size.result) c.args.text.now in
    let split = e ∙ drop_more c.args.text.now (c.args.from + c.gap_size-size.result) 0 (omega (arith, inside, c.if-start-text.false)) in
    let holds = holds_at _ _ _ _ split c.in-Ok.ensures in
    omega (arith, holds.inside, ap length e, length-drop (c.args.from + c.gap_size-size.result) c.args.text.now, inside, c.requires.length)

pub overflow_cast-result-in-Ok : goal.overflow_cast-result-in-Ok
overflow_cast-result-in-Ok c =
    let inside = start_inside c.args.text.now c.args.from c.gap_size-size.result _ (rest_is c.args.from c.args.text.now) c.requires.inside c.gap_size-size.ensures in
    let e = rest_is (c.args.from + c.gap_size-size.result) c.args.text.now in
    let split = e ∙ drop_more c.args.text.now (c.args.from + c.gap_size-size.result) 0 (omega (arith, inside, c.if-start-text.false)) in
    let holds = holds_at _ _ _ _ split c.in-Ok.ensures in
    omega (arith, holds.inside, ap length e, length-drop (c.args.from + c.gap_size-size.result) c.args.text.now, inside, c.requires.length)

pub returns-in-Ok : goal.returns-in-Ok
returns-in-Ok c =
    let inside = start_inside c.args.text.now c.args.from c.gap_size-size.result _ (rest_is c.args.from c.args.text.now) c.requires.inside c.gap_size-size.ensures in
    let e = rest_is (c.args.from + c.gap_size-size.result) c.args.text.now in
    let split = e ∙ drop_more c.args.text.now (c.args.from + c.gap_size-size.result) 0 (omega (arith, inside, c.if-start-text.false)) in
    let holds = holds_at _ _ _ _ split c.in-Ok.ensures in
    let same : c.args.from + c.gap_size-size.result - c.args.from ≡ c.gap_size-size.result = omega arith in
    let place = c.place_behind-at.ensures ∙ ap (λ n. place_behind c.args.at (take n (drop c.args.from c.args.text.now))) same ∙ ap (λ p. place_behind p (take c.gap_size-size.result (drop c.args.from c.args.text.now))) c.requires.place ∙ place_on c.args.text.now c.args.from c.gap_size-size.result in
    next_ok c.args.text.now c.args.from c.gap_size-size.result _ (rest_is c.args.from c.args.text.now) c.requires.inside c.gap_size-size.ensures c.place_behind-at.result place _ e c.in-Ok.piece.kind c.in-Ok.piece.size holds

pub returns-in-Err : goal.returns-in-Err
returns-in-Err c =
    let inside = start_inside c.args.text.now c.args.from c.gap_size-size.result _ (rest_is c.args.from c.args.text.now) c.requires.inside c.gap_size-size.ensures in
    let e = rest_is (c.args.from + c.gap_size-size.result) c.args.text.now in
    let split = e ∙ drop_more c.args.text.now (c.args.from + c.gap_size-size.result) 0 (omega (arith, inside, c.if-start-text.false)) in
    let holds = holds_at _ _ _ _ split c.in-Err.ensures in
    let same : c.args.from + c.gap_size-size.result - c.args.from ≡ c.gap_size-size.result = omega arith in
    let place = c.place_behind-at.ensures ∙ ap (λ n. place_behind c.args.at (take n (drop c.args.from c.args.text.now))) same ∙ ap (λ p. place_behind p (take c.gap_size-size.result (drop c.args.from c.args.text.now))) c.requires.place ∙ place_on c.args.text.now c.args.from c.gap_size-size.result in
    next_err c.args.text.now c.args.from c.gap_size-size.result _ (rest_is c.args.from c.args.text.now) c.requires.inside c.gap_size-size.ensures c.place_behind-at.result place _ e c.in-Err.rule holds
