use Rattle.std.proofs.Common.{◌-◌, length, IsUtf8, sym, refl, ◌∙◌, subst}
use Rattle.std.proofs.lemmas.Str.{IsUtf8-drop}
use Rattle.qasm_lexer.proofs.Cutting.{chars_cut}
use Rattle.qasm_lexer.proofs.NextStep.{next_refused, next_end, next_token, place_here, place_room, no_gap, an_open_comment, first_no_blank}
use Rattle.qasm_lexer.proofs.lexer.next_token.Goals as goal

pub place_behind-at-requires-clause-line : goal.place_behind-at-requires-clause-line
place_behind-at-requires-clause-line c =
    (place_room _ c.args.from c.args.at _ _ _ c.utf8.text c.requires.boundary c.requires.place c.split_at.ensures.back_len c.front_of.ensures.length c.requires.length).0

pub place_behind-at-requires-clause-column : goal.place_behind-at-requires-clause-column
place_behind-at-requires-clause-column c =
    (place_room _ c.args.from c.args.at _ _ _ c.utf8.text c.requires.boundary c.requires.place c.split_at.ensures.back_len c.front_of.ensures.length c.requires.length).1

pub returns-then-is_open : goal.returns-then-is_open
returns-then-is_open c =
    let here_utf8 = subst IsUtf8 (sym c.split_at.ensures.back) (IsUtf8-drop _ _ c.utf8.text c.requires.boundary) in
    let skip = c.skip_gaps-is_open.ensures in
    next_refused c.utf8.text c.requires.boundary c.split_at.ensures.back here_utf8 skip (length c.args.text.now - length c.skip_gaps-is_open.result.0.now) refl c.args.version _ _
    (c.place_behind-at.ensures ∙ place_here c.args.from _ c.args.at _ _ c.utf8.text c.requires.boundary c.split_at.ensures.back here_utf8 skip.has_rest.1 c.front_of.ensures.whole refl c.requires.place)
    (an_open_comment _ c.if-is_open.true skip.begins)

pub returns-in_default : goal.returns-in_default
returns-in_default c =
    let here_utf8 = subst IsUtf8 (sym c.split_at.ensures.back) (IsUtf8-drop _ _ c.utf8.text c.requires.boundary) in
    next_end c.utf8.text c.requires.boundary c.split_at.ensures.back here_utf8 c.skip_gaps-is_open.ensures (length c.args.text.now - length c.skip_gaps-is_open.result.0.now) refl c.args.version c.in_default.ensures

pub first_token-requires-clause-no_blank : goal.first_token-requires-clause-no_blank
first_token-requires-clause-no_blank c =
    first_no_blank _ _ _ (no_gap _ c.if-is_open.false c.skip_gaps-is_open.ensures.begins) (chars_cut c.in-Some.ensures)

pub returns-in-Ok : goal.returns-in-Ok
returns-in-Ok c =
    let here_utf8 = subst IsUtf8 (sym c.split_at.ensures.back) (IsUtf8-drop _ _ c.utf8.text c.requires.boundary) in
    let skip = c.skip_gaps-is_open.ensures in
    next_token c.utf8.text c.requires.boundary c.split_at.ensures.back here_utf8 skip (length c.args.text.now - length c.skip_gaps-is_open.result.0.now) refl c.args.version c.in-Ok.kind c.in-Ok.end.now _ _ refl
    (c.place_behind-at.ensures ∙ place_here c.args.from _ c.args.at _ _ c.utf8.text c.requires.boundary c.split_at.ensures.back here_utf8 skip.has_rest.1 c.front_of.ensures.whole refl c.requires.place)
    (no_gap _ c.if-is_open.false skip.begins).no_comment c.in-Ok.ensures

pub returns-in-Err : goal.returns-in-Err
returns-in-Err c =
    let here_utf8 = subst IsUtf8 (sym c.split_at.ensures.back) (IsUtf8-drop _ _ c.utf8.text c.requires.boundary) in
    let skip = c.skip_gaps-is_open.ensures in
    next_refused c.utf8.text c.requires.boundary c.split_at.ensures.back here_utf8 skip (length c.args.text.now - length c.skip_gaps-is_open.result.0.now) refl c.args.version c.in-Err.rule _
    (c.place_behind-at.ensures ∙ place_here c.args.from _ c.args.at _ _ c.utf8.text c.requires.boundary c.split_at.ensures.back here_utf8 skip.has_rest.1 c.front_of.ensures.whole refl c.requires.place)
    c.in-Err.ensures
