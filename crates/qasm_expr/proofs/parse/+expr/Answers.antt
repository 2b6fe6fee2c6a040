use Rattle.std.proofs.Common.{rules, ◌≡◌, ℕ, Vec, Global, ◌+◌, ◌-◌, ◌≤◌, ◌<◌, ◌∷◌, ◌++◌, [], List, true, false, Some, None, length, drop, refl, sym, ap, subst, ◌∙◌, le_refl, length-drop, length-append, arith}
use Rattle.std.specs.Prelude.{All}
use Rattle.std.proofs.lemmas.List.Elements.{All-nil, All-push, All-weaker}
use Rattle.qasm_ast.specs.Whole.{IndexFits}
use Rattle.std.proofs.lemmas.Result.{err_from_is_err_and}
use Rattle.std.proofs.lemmas.Option.{slice_get-get_or}
use Rattle.qasm_lexer.specs.declared.token.Mark.TheVariants as m
use Rattle.qq_base.specs.declared.refusal.Span.{Span}
use Rattle.qasm_ast.specs.declared.expr.ExprId.{ExprId}
use Rattle.qasm_ast.specs.declared.expr.ExprKind.TheVariants as e
use Rattle.qasm_ast.specs.declared.expr.BinaryOp.TheVariants as op
use Rattle.qasm_ast.specs.declared.expr.IndexRef.{IndexRef}
use Rattle.qasm_ast.specs.Tree.{Tree, absent, present, word, named, unary as unary_tree, binary as binary_tree, cast as cast_tree, call, place_of, Bracket, position, range, members, trees, brackets}
use Rattle.grammar_parts.specs.Reading.{take_one}
use Rattle.qasm_lexer.specs.Sizes.{bytes_of}
use Rattle.qasm_expr.specs.TokenKinds.{mark_kind}
use Rattle.qasm_expr.specs.Grammar.{scalar, name_of}
use Rattle.qasm_expr.specs.Reader.{expr_kinds, read_sign, read_opener, read_between, read_width, read_grouped, read_type, read_cast, read_list, read_stop, read_behind_colon, read_behind_start, read_set, read_content, read_index, read_indexes, read_behind_name, read_prim, read_binary, read_unary, read_expr}
use Rattle.qasm_lexer.specs.declared.token.Token.{Token}
use Rattle.qasm_expr.specs.Seen.{Sees, SeesAll, SeesBracket, SeesBrackets, SeesCounted, SeesScalar, deeper_expr, deeper_content, tighter, rows_at}
use Rattle.qasm_expr.specs.Answer.{Grows}
use Rattle.qasm_expr.proofs.Places.{heads_sign, passes_yes}
use Rattle.qasm_expr.proofs.Growing.{get_below, nodes_longer, name_later, last_found, grows_same, grows_add, grows_name, grows_on, sees_later, all_later, maybe_later, brackets_later, sees_below}
use Rattle.qasm_expr.proofs.Chains.{Going, going_start, going_end, going_full, going_err, going_step}
use Rattle.qasm_expr.proofs.Lists.{maybe_on, all_with, brackets_with, all_wider, maybe_wider, brackets_wider}
use Rattle.qasm_expr.proofs.Loops.{repeating_start, repeating_stop, repeating_err, repeating_more, listing_start, listing_stop, listing_err, listing_end, listing_more}
use Rattle.qasm_expr.proofs.Levels.{expr_moves}
use Rattle.qasm_expr.proofs.Exits.{exit, exit_mark, behind, grows_kept, deeper_expr_at, deeper_content_at, binary_open, sees_place}
use Rattle.qasm_expr.proofs.Units.{token_is, sign_ahead, sign_shut, base_err, base_alone, power_full, power_shut, power_on, rows_none, level_err, pushed}
use Rattle.qasm_ast.proofs.Fitting.{maybe_longer, index_longer, type_longer}
use Rattle.qasm_expr.proofs.Fits.{all_seen, plain_fits, sized_fits}
use Rattle.qasm_expr.proofs.Operands.{literal_ahead, literal_some, literal_none, plain_ahead, wide_ahead, no_type}
use Rattle.qasm_expr.proofs.parse.+expr.Goals as goal

pub between-returns-in_err-inside-clause-gives : goal.between-returns-in_err-inside-clause-gives
unfolding read_between
between-returns-in_err-inside-clause-gives t c =
    let p = err_from_is_err_and c.from_residual.result c.from_residual.ensures.1 in
    rw (p.1, p.2) (exit_mark (λ (x : ExprId) (a : Tree). Sees c.args.names.now.keys c.args.nodes.now.items x.0 a) c.args.tokens.now c.args.from c.args.from (read_opener c.args.text.now c.args.room (mark_kind c.args.left) (drop c.args.from c.args.tokens.now)) _ c.in_err-inside.field-0.0 (λ x h. rw (h) refl) (le_refl _) c.requires.within c.in_err-inside.ensures.passes)

pub between-returns-in_err-found-clause-gives : goal.between-returns-in_err-found-clause-gives
unfolding read_between
between-returns-in_err-found-clause-gives t c =
    let m = c.in_ok-inside.ensures.passes in
    let p = err_from_is_err_and c.from_residual-in_err-found.result c.from_residual-in_err-found.ensures.1 in
    rw (p.1, p.2) (exit (λ (x : ExprId) (a : Tree). Sees c.expr.new.names.keys c.expr.new.nodes.items x.0 a) (λ (x : ExprId) (a : Tree). Sees c.expr.new.names.keys c.expr.new.nodes.items x.0 a) c.args.tokens.now c.args.from c.in_ok-inside.inside (read_expr c.args.text.now (Some 64) (c.args.room - 1) (drop c.in_ok-inside.inside c.args.tokens.now)) _ c.in_err-found.field-0.0 (λ x h. rw (m.4, ap (λ r. r (drop c.in_ok-inside.inside c.args.tokens.now)) (deeper_expr_at c.args.text.now c.args.room c.in_ok-inside.ensures.has_room), h) refl) (omega arith) c.in_err-found.ensures.gives)

pub between-returns-in_err-at-clause-gives : goal.between-returns-in_err-at-clause-gives
unfolding read_between
between-returns-in_err-at-clause-gives t c =
    let m = c.in_ok-inside.ensures.passes in
    let r = c.in_ok-found.ensures.gives in
    let p = err_from_is_err_and c.from_residual-in_err-at.result c.from_residual-in_err-at.ensures.1 in
    rw (p.1, p.2) (exit_mark (λ (x : ExprId) (a : Tree). Sees c.expr.new.names.keys c.expr.new.nodes.items x.0 a) c.args.tokens.now c.args.from c.in_ok-found.at (read_sign c.args.text.now (mark_kind c.args.right) (drop c.in_ok-found.at c.args.tokens.now)) _ c.in_err-at.field-0.0 (λ x h. rw (m.4, ap (λ r. r (drop c.in_ok-inside.inside c.args.tokens.now)) (deeper_expr_at c.args.text.now c.args.room c.in_ok-inside.ensures.has_room), r.4, h) refl) (omega arith) r.3 c.in_err-at.ensures)

pub between-returns-clause-gives : goal.between-returns-clause-gives
unfolding read_between
between-returns-clause-gives t c =
    let m = c.in_ok-inside.ensures.passes in
    let r = c.in_ok-found.ensures.gives in
    let k = c.in_ok-at.ensures in
    (r.0, r.1, omega arith, k.2, rw (m.4, ap (λ r. r (drop c.in_ok-inside.inside c.args.tokens.now)) (deeper_expr_at c.args.text.now c.args.room c.in_ok-inside.ensures.has_room), r.4, k.4) refl)

pub cast-returns-in_err-ty-clause-gives : goal.cast-returns-in_err-ty-clause-gives
unfolding read_cast
cast-returns-in_err-ty-clause-gives t c =
    let p = err_from_is_err_and c.from_residual.result c.from_residual.ensures.1 in
    rw (p.1, p.2) (exit (SeesScalar c.scalar.new.names.keys c.scalar.new.nodes.items) (λ (x : ExprId) (a : Tree). Sees c.scalar.new.names.keys c.scalar.new.nodes.items x.0 a) c.args.tokens.now c.args.from c.args.from (read_type c.args.text.now c.args.room (deeper_expr c.args.text.now c.args.room) (drop c.args.from c.args.tokens.now)) _ c.in_err-ty.field-0.0 (λ x h. rw (h) refl) (le_refl _) c.in_err-ty.ensures.gives)

pub cast-returns-in_err-operand-clause-gives : goal.cast-returns-in_err-operand-clause-gives
unfolding read_cast
cast-returns-in_err-operand-clause-gives t c =
    let g = c.in_ok-ty.ensures.gives in
    let p = err_from_is_err_and c.from_residual-in_err-operand.result c.from_residual-in_err-operand.ensures.1 in
    rw (p.1, p.2) (exit (λ (x : ExprId) (a : Tree). Sees c.between.new.names.keys c.between.new.nodes.items x.0 a) (λ (x : ExprId) (a : Tree). Sees c.between.new.names.keys c.between.new.nodes.items x.0 a) c.args.tokens.now c.args.from c.in_ok-ty.at (read_grouped c.args.text.now c.args.room (deeper_expr c.args.text.now c.args.room) (drop c.in_ok-ty.at c.args.tokens.now)) _ c.in_err-operand.field-0.0 (λ x h. rw (g.4, h) refl) g.2 c.in_err-operand.ensures.gives)

pub cast-returns-in_err-operand-clause-grows : goal.cast-returns-in_err-operand-clause-grows
cast-returns-in_err-operand-clause-grows t c =
    grows_on _ _ _ _ _ _ c.scalar.ensures.grows c.between.ensures.grows

pub cast-returns-in_err-node-clause-grows : goal.cast-returns-in_err-node-clause-grows
cast-returns-in_err-node-clause-grows t c =
    subst (λ l. Grows c.args.names.now.keys c.between.new.names.keys c.args.nodes.now.items l) (sym c.in_err-node.ensures.err) (grows_on _ _ _ _ _ _ c.scalar.ensures.grows c.between.ensures.grows)

pub unary-returns-then-room-eq0-clause-gives : goal.unary-returns-then-room-eq0-clause-gives
unary-returns-then-room-eq0-clause-gives t c =
    (le_refl _, c.requires.within, sign_shut c.args.text.now c.args.tokens.now c.args.from c.args.room c.args.used c.in-Some.op c.requires.within c.if-room-eq0.true (sym c.sign_at.ensures.value ∙ c.in-Some.is))

pub unary-returns-in_err-operand-clause-gives : goal.unary-returns-in_err-operand-clause-gives
unary-returns-in_err-operand-clause-gives t c =
    let u = sign_ahead c.args.text.now c.args.tokens.now c.args.from c.args.room c.args.used c.in-Some.op c.requires.within (omega arith) (sym c.sign_at.ensures.value ∙ c.in-Some.is) in
    let p = err_from_is_err_and c.from_residual.result c.from_residual.ensures.1 in
    rw (p.1, p.2) (exit (SeesCounted c.unary.new.names.keys c.unary.new.nodes.items) (SeesCounted c.unary.new.names.keys c.unary.new.nodes.items) c.args.tokens.now c.args.from (c.args.from + 1) (read_unary c.args.text.now (Some 64) (c.args.room - 1) c.args.used (drop (c.args.from + 1) c.args.tokens.now)) _ c.in_err-operand.field-0.0 (λ x h. u.same ∙ rw h refl) (omega arith) c.in_err-operand.ensures.gives)

pub unary-returns-in-Some-clause-gives : goal.unary-returns-in-Some-clause-gives
unary-returns-in-Some-clause-gives t c =
    let u = sign_ahead c.args.text.now c.args.tokens.now c.args.from c.args.room c.args.used c.in-Some.op c.requires.within (omega arith) (sym c.sign_at.ensures.value ∙ c.in-Some.is) in
    let r = c.in_ok-operand.ensures.gives in
    let below = sees_below c.unary.new.names.keys c.unary.new.nodes.items r.0.0 c.in_ok-operand.operand.0 r.1.0 in
    let g = grows_add c.unary.new.names.keys c.unary.new.nodes.items c.add.new.nodes.items (e.Unary c.in-Some.op c.in_ok-operand.operand) _ c.in_ok-node.ensures.items below in
    let is = token_is c.args.tokens.now c.args.from _ u.token _ u.here in
    let found = last_found c.unary.new.nodes.items c.add.new.nodes.items _ c.in_ok-node.node.0 c.in_ok-node.ensures.items c.in_ok-node.ensures.id in
    ((unary_tree c.in-Some.op r.0.0 u.token.at, r.0.1), ((c.in_ok-operand.operand, found ∙ ap (λ (x : Token). Some (record { kind = e.Unary c.in-Some.op c.in_ok-operand.operand; at = x.at })) is, omega (arith, c.in_ok-node.ensures.id, below), sees_later g r.0.0 c.in_ok-operand.operand.0 r.1.0), r.1.1), omega arith, r.3, u.same ∙ rw r.4 refl)

pub unary-returns-in-Some-clause-grows : goal.unary-returns-in-Some-clause-grows
unary-returns-in-Some-clause-grows t c =
    let r = c.in_ok-operand.ensures.gives in
    let below = sees_below c.unary.new.names.keys c.unary.new.nodes.items r.0.0 c.in_ok-operand.operand.0 r.1.0 in
    let g = grows_add c.unary.new.names.keys c.unary.new.nodes.items c.add.new.nodes.items (e.Unary c.in-Some.op c.in_ok-operand.operand) _ c.in_ok-node.ensures.items below in
    grows_on _ _ _ _ _ _ c.unary.ensures.grows g

pub unary-returns-in_err-base-clause-gives : goal.unary-returns-in_err-base-clause-gives
unary-returns-in_err-base-clause-gives t c =
    let p = err_from_is_err_and c.from_residual-in_err-base.result c.from_residual-in_err-base.ensures.1 in
    rw (p.1, p.2) (exit (λ (x : ExprId) (a : Tree). Sees c.prim.new.names.keys c.prim.new.nodes.items x.0 a) (SeesCounted c.prim.new.names.keys c.prim.new.nodes.items) c.args.tokens.now c.args.from c.args.from (read_prim c.args.text.now c.args.room (deeper_expr c.args.text.now c.args.room) (deeper_content c.args.text.now c.args.room) (drop c.args.from c.args.tokens.now)) _ c.in_err-base.field-0.0 (λ x h. base_err c.args.text.now c.args.room c.args.used (drop c.args.from c.args.tokens.now) (sym c.sign_at.ensures.value ∙ c.in_default.is) x h) (le_refl _) c.in_err-base.ensures.gives)

pub unary-returns-then-not-sees-clause-gives : goal.unary-returns-then-not-sees-clause-gives
unary-returns-then-not-sees-clause-gives t c =
    let g = c.in_ok-base.ensures.gives in
    ((g.0, c.args.used), (g.1, refl), g.2, g.3, base_alone c.args.text.now c.args.room c.args.used (drop c.args.from c.args.tokens.now) (sym c.sign_at.ensures.value ∙ c.in_default.is) g.0 (drop c.in_ok-base.at c.args.tokens.now) g.4 (sym c.sees.ensures.value ∙ c.if-not-sees.true))

pub unary-returns-then-used-ge-CHAIN-clause-gives : goal.unary-returns-then-used-ge-CHAIN-clause-gives
unary-returns-then-used-ge-CHAIN-clause-gives t c =
    let g = c.in_ok-base.ensures.gives in
    (g.2, g.3, power_full c.args.text.now c.args.room c.args.used (drop c.args.from c.args.tokens.now) (sym c.sign_at.ensures.value ∙ c.in_default.is) g.0 (drop c.in_ok-base.at c.args.tokens.now) g.4 (sym c.sees.ensures.value ∙ c.if-not-sees.false) c.if-used-ge-CHAIN.true)

pub unary-returns-in_err-inside-clause-gives : goal.unary-returns-in_err-inside-clause-gives
unary-returns-in_err-inside-clause-gives t c =
    let g = c.in_ok-base.ensures.gives in
    let lt : c.args.used < 64 = omega arith in
    let p = err_from_is_err_and c.from_residual-in_err-inside.result c.from_residual-in_err-inside.ensures.1 in
    rw (p.1, p.2) (exit_mark (SeesCounted c.prim.new.names.keys c.prim.new.nodes.items) c.args.tokens.now c.args.from c.in_ok-base.at (read_opener c.args.text.now c.args.room (mark_kind m.StarStar) (drop c.in_ok-base.at c.args.tokens.now)) _ c.in_err-inside.field-0.0 (λ x h. power_shut c.args.text.now c.args.room c.args.used (drop c.args.from c.args.tokens.now) (sym c.sign_at.ensures.value ∙ c.in_default.is) g.0 (drop c.in_ok-base.at c.args.tokens.now) g.4 (sym c.sees.ensures.value ∙ c.if-not-sees.false) lt x h) g.2 g.3 c.in_err-inside.ensures.passes)

pub unary-returns-in_err-right-clause-gives : goal.unary-returns-in_err-right-clause-gives
unary-returns-in_err-right-clause-gives t c =
    let g = c.in_ok-base.ensures.gives in
    let lt : c.args.used < 64 = omega arith in
    let k = c.in_ok-inside.ensures.passes in
    let p = err_from_is_err_and c.from_residual-in_err-right.result c.from_residual-in_err-right.ensures.1 in
    rw (p.1, p.2) (exit (SeesCounted c.unary-2.new.names.keys c.unary-2.new.nodes.items) (SeesCounted c.unary-2.new.names.keys c.unary-2.new.nodes.items) c.args.tokens.now c.args.from c.in_ok-inside.inside (read_unary c.args.text.now (Some 64) (c.args.room - 1) (c.args.used + 1) (drop c.in_ok-inside.inside c.args.tokens.now)) _ c.in_err-right.field-0.0 (λ x h. power_on c.args.text.now c.args.room c.args.used (drop c.args.from c.args.tokens.now) (sym c.sign_at.ensures.value ∙ c.in_default.is) g.0 (drop c.in_ok-base.at c.args.tokens.now) g.4 (sym c.sees.ensures.value ∙ c.if-not-sees.false) lt c.in_ok-inside.ensures.has_room k.0 (drop c.in_ok-inside.inside c.args.tokens.now) k.4 ∙ rw h refl) (omega arith) c.in_err-right.ensures.gives)

pub unary-returns-in_err-right-clause-grows : goal.unary-returns-in_err-right-clause-grows
unary-returns-in_err-right-clause-grows t c =
    grows_on _ _ _ _ _ _ c.prim.ensures.grows c.unary-2.ensures.grows

pub unary-join-requires-clause-left : goal.unary-join-requires-clause-left
unary-join-requires-clause-left t c =
    let g = c.in_ok-base.ensures.gives in
    sees_below c.unary-2.new.names.keys c.unary-2.new.nodes.items g.0 c.in_ok-base.base.0 (sees_later c.unary-2.ensures.grows g.0 c.in_ok-base.base.0 g.1)

pub unary-returns-in_err-node-2-clause-grows : goal.unary-returns-in_err-node-2-clause-grows
unary-returns-in_err-node-2-clause-grows t c =
    subst (λ l. Grows c.args.names.now.keys c.unary-2.new.names.keys c.args.nodes.now.items l) (sym c.in_err-node-2.ensures.err) (grows_on _ _ _ _ _ _ c.prim.ensures.grows c.unary-2.ensures.grows)

pub unary-returns-clause-grows : goal.unary-returns-clause-grows
unary-returns-clause-grows t c =
    let g = c.in_ok-base.ensures.gives in
    let r = c.in_ok-right.ensures.gives in
    let j = c.in_ok-node-2.ensures.items in
    let left = sees_later c.unary-2.ensures.grows g.0 c.in_ok-base.base.0 g.1 in
    let lb = sees_below c.unary-2.new.names.keys c.unary-2.new.nodes.items g.0 c.in_ok-base.base.0 left in
    let rb = sees_below c.unary-2.new.names.keys c.unary-2.new.nodes.items r.0.0 c.in_ok-right.right.0 r.1.0 in
    let a = grows_add c.unary-2.new.names.keys c.unary-2.new.nodes.items c.join.new.nodes.items (e.Binary op.Power c.in_ok-base.base c.in_ok-right.right) j.first.at j.added (lb, rb) in
    grows_on _ _ _ _ _ _ (grows_on _ _ _ _ _ _ c.prim.ensures.grows c.unary-2.ensures.grows) a

pub unary-returns-clause-gives : goal.unary-returns-clause-gives
unary-returns-clause-gives t c =
    let g = c.in_ok-base.ensures.gives in
    let lt : c.args.used < 64 = omega arith in
    let k = c.in_ok-inside.ensures.passes in
    let r = c.in_ok-right.ensures.gives in
    let j = c.in_ok-node-2.ensures.items in
    let left = sees_later c.unary-2.ensures.grows g.0 c.in_ok-base.base.0 g.1 in
    let lb = sees_below c.unary-2.new.names.keys c.unary-2.new.nodes.items g.0 c.in_ok-base.base.0 left in
    let rb = sees_below c.unary-2.new.names.keys c.unary-2.new.nodes.items r.0.0 c.in_ok-right.right.0 r.1.0 in
    let a = grows_add c.unary-2.new.names.keys c.unary-2.new.nodes.items c.join.new.nodes.items (e.Binary op.Power c.in_ok-base.base c.in_ok-right.right) j.first.at j.added (lb, rb) in
    let found = last_found c.unary-2.new.nodes.items c.join.new.nodes.items _ c.in_ok-node-2.node.0 j.added c.in_ok-node-2.ensures.id in
    let place = sees_place c.unary-2.new.names.keys c.unary-2.new.nodes.items g.0 c.in_ok-base.base.0 j.first left j.there in
    ((binary_tree op.Power g.0 r.0.0 (place_of g.0), r.0.1), ((c.in_ok-base.base, c.in_ok-right.right, found ∙ ap (λ z. Some (record { kind = e.Binary op.Power c.in_ok-base.base c.in_ok-right.right; at = z })) place, omega (arith, c.in_ok-node-2.ensures.id, lb, rb), omega (arith, c.in_ok-node-2.ensures.id, lb, rb), sees_later a g.0 c.in_ok-base.base.0 left, sees_later a r.0.0 c.in_ok-right.right.0 r.1.0), r.1.1), omega arith, r.3, power_on c.args.text.now c.args.room c.args.used (drop c.args.from c.args.tokens.now) (sym c.sign_at.ensures.value ∙ c.in_default.is) g.0 (drop c.in_ok-base.at c.args.tokens.now) g.4 (sym c.sees.ensures.value ∙ c.if-not-sees.false) lt c.in_ok-inside.ensures.has_room k.0 (drop c.in_ok-inside.inside c.args.tokens.now) k.4 ∙ rw r.4 refl)

pub binary-returns-in_err-left-clause-gives : goal.binary-returns-in_err-left-clause-gives
binary-returns-in_err-left-clause-gives t c =
    let rank_lt : c.args.rank < 10 = omega arith in
    let p = err_from_is_err_and c.from_residual.result c.from_residual.ensures.1 in
    rw (p.1, p.2) (exit (SeesCounted c.binary.new.names.keys c.binary.new.nodes.items) (SeesCounted c.binary.new.names.keys c.binary.new.nodes.items) c.args.tokens.now c.args.from c.args.from ((read_binary c.args.text.now (Some 64) (tighter (c.args.rank + 1)) (read_unary c.args.text.now (Some 64) c.args.room)) c.args.used (drop c.args.from c.args.tokens.now)) _ c.in_err-left.field-0.0 (λ x h. ap (λ r. r (drop c.args.from c.args.tokens.now)) (binary_open c.args.text.now c.args.rank c.args.used (read_unary c.args.text.now (Some 64) c.args.room) rank_lt) ∙ level_err c.args.text.now (rows_at c.args.rank) (read_binary c.args.text.now (Some 64) (tighter (c.args.rank + 1)) (read_unary c.args.text.now (Some 64) c.args.room)) c.args.used (drop c.args.from c.args.tokens.now) x h) (le_refl _) c.in_err-left.ensures.gives)

pub binary-loop-op-init : goal.binary-loop-op-init
binary-loop-op-init t c =
    let rank_lt : c.args.rank < 10 = omega arith in
    let g = c.in_ok-left.ensures.gives in
    record {
      going = subst (λ o. Going c.args.text.now (rows_at c.args.rank) (read_binary c.args.text.now (Some 64) (tighter (c.args.rank + 1)) (read_unary c.args.text.now (Some 64) c.args.room)) c.args.tokens.now c.binary.new.names.keys c.binary.new.nodes.items c.args.from o c.in_ok-left.left c.in_ok-left.count c.in_ok-left.at) (sym (ap (λ r. r (drop c.args.from c.args.tokens.now)) (binary_open c.args.text.now c.args.rank c.args.used (read_unary c.args.text.now (Some 64) c.args.room) rank_lt))) (going_start c.args.text.now (rows_at c.args.rank) (rows_none c.args.rank) (read_binary c.args.text.now (Some 64) (tighter (c.args.rank + 1)) (read_unary c.args.text.now (Some 64) c.args.room)) c.args.tokens.now c.args.from c.binary.new.names.keys c.binary.new.nodes.items c.in_ok-left.left c.in_ok-left.count c.in_ok-left.at c.args.used g.0 g.1 g.2 g.3 g.4);
      grown = c.binary.ensures.grows;
      added = c.in_ok-left.ensures.added;
    }

pub binary-returns-then-count-ge-CHAIN-clause-gives : goal.binary-returns-then-count-ge-CHAIN-clause-gives
binary-returns-then-count-ge-CHAIN-clause-gives t c =
    going_full c.args.text.now (rows_at c.args.rank) (rows_none c.args.rank) (read_binary c.args.text.now (Some 64) (tighter (c.args.rank + 1)) (read_unary c.args.text.now (Some 64) c.args.room)) c.args.tokens.now c.args.from c.loop-op.invariant.going (sym c.operator_at.ensures.value ∙ c.in-Some.is) (SeesCounted c.loop-op.names.keys c.loop-op.nodes.items) c.if-count-ge-CHAIN.true

pub binary-returns-in_err-right-clause-gives : goal.binary-returns-in_err-right-clause-gives
binary-returns-in_err-right-clause-gives t c =
    let count_lt : c.loop-op.count < 64 = omega arith in
    let le : c.args.from ≤ c.loop-op.at = c.loop-op.invariant.going.from_at in
    let p = err_from_is_err_and c.from_residual-in_err-right.result c.from_residual-in_err-right.ensures.1 in
    rw (p.1, p.2) (exit (SeesCounted c.binary-in-Some.new.names.keys c.binary-in-Some.new.nodes.items) (SeesCounted c.binary-in-Some.new.names.keys c.binary-in-Some.new.nodes.items) c.args.tokens.now c.args.from (c.loop-op.at + 1) ((read_binary c.args.text.now (Some 64) (tighter (c.args.rank + 1)) (read_unary c.args.text.now (Some 64) c.args.room)) (c.loop-op.count + 1) (drop (c.loop-op.at + 1) c.args.tokens.now)) _ c.in_err-right.field-0.0 (going_err c.args.text.now (rows_at c.args.rank) (rows_none c.args.rank) (read_binary c.args.text.now (Some 64) (tighter (c.args.rank + 1)) (read_unary c.args.text.now (Some 64) c.args.room)) c.args.tokens.now c.args.from c.loop-op.invariant.going (sym c.operator_at.ensures.value ∙ c.in-Some.is) count_lt) (omega arith) c.in_err-right.ensures.gives)

pub binary-returns-in_err-right-clause-grows : goal.binary-returns-in_err-right-clause-grows
binary-returns-in_err-right-clause-grows t c =
    grows_on _ _ _ _ _ _ c.loop-op.invariant.grown c.binary-in-Some.ensures.grows

pub binary-join-requires-clause-left : goal.binary-join-requires-clause-left
binary-join-requires-clause-left t c =
    sees_below c.binary-in-Some.new.names.keys c.binary-in-Some.new.nodes.items c.loop-op.invariant.going.tree.0 c.loop-op.left.0 (sees_later c.binary-in-Some.ensures.grows c.loop-op.invariant.going.tree.0 c.loop-op.left.0 c.loop-op.invariant.going.sees.0)

pub binary-returns-in_err-left-2-clause-grows : goal.binary-returns-in_err-left-2-clause-grows
binary-returns-in_err-left-2-clause-grows t c =
    subst (λ l. Grows c.args.names.now.keys c.binary-in-Some.new.names.keys c.args.nodes.now.items l) (sym c.in_err-left-2.ensures.err) (grows_on _ _ _ _ _ _ c.loop-op.invariant.grown c.binary-in-Some.ensures.grows)

pub binary-loop-op-preserved : goal.binary-loop-op-preserved
binary-loop-op-preserved t c =
    let count_lt : c.loop-op.count < 64 = omega arith in
    let le : c.args.from ≤ c.loop-op.at = c.loop-op.invariant.going.from_at in
    let r = c.in_ok-right.ensures.gives in
    let j = c.in_ok-left-2.ensures.items in
    let tree = c.loop-op.invariant.going.tree in
    let left = sees_later c.binary-in-Some.ensures.grows c.loop-op.invariant.going.tree.0 c.loop-op.left.0 c.loop-op.invariant.going.sees.0 in
    let lb = sees_below c.binary-in-Some.new.names.keys c.binary-in-Some.new.nodes.items tree.0 c.loop-op.left.0 left in
    let rb = sees_below c.binary-in-Some.new.names.keys c.binary-in-Some.new.nodes.items r.0.0 c.in_ok-right.right.0 r.1.0 in
    let a = grows_add c.binary-in-Some.new.names.keys c.binary-in-Some.new.nodes.items c.join.new.nodes.items (e.Binary c.in-Some.op c.loop-op.left c.in_ok-right.right) j.first.at j.added (lb, rb) in
    let found = last_found c.binary-in-Some.new.nodes.items c.join.new.nodes.items _ c.in_ok-left-2.left.0 j.added c.in_ok-left-2.ensures.id in
    let place = sees_place c.binary-in-Some.new.names.keys c.binary-in-Some.new.nodes.items tree.0 c.loop-op.left.0 j.first left j.there in
    let more = c.in_ok-right.ensures.added in
    let before = c.loop-op.invariant.added in
    let one : length c.join.new.nodes.items ≡ length c.binary-in-Some.new.nodes.items + 1 = ap length j.added ∙ length-append c.binary-in-Some.new.nodes.items _ in
    record {
      going = going_step c.args.text.now (rows_at c.args.rank) (rows_none c.args.rank) (read_binary c.args.text.now (Some 64) (tighter (c.args.rank + 1)) (read_unary c.args.text.now (Some 64) c.args.room)) c.args.tokens.now c.args.from c.loop-op.invariant.going (sym c.operator_at.ensures.value ∙ c.in-Some.is) c.binary-in-Some.new.names.keys c.join.new.nodes.items c.in_ok-left-2.left c.in_ok-right.more c.in_ok-right.next r.0 count_lt ((c.loop-op.left, c.in_ok-right.right, found ∙ ap (λ z. Some (record { kind = e.Binary c.in-Some.op c.loop-op.left c.in_ok-right.right; at = z })) place, omega (arith, c.in_ok-left-2.ensures.id, lb, rb), omega (arith, c.in_ok-left-2.ensures.id, lb, rb), sees_later a tree.0 c.loop-op.left.0 left, sees_later a r.0.0 c.in_ok-right.right.0 r.1.0), r.1.1) r.2 r.3 r.4;
      grown = grows_on _ _ _ _ _ _ (grows_on _ _ _ _ _ _ c.loop-op.invariant.grown c.binary-in-Some.ensures.grows) a;
      added = (omega arith, omega arith);
    }

pub binary-returns-clause-gives : goal.binary-returns-clause-gives
binary-returns-clause-gives t c =
    going_end c.args.text.now (rows_at c.args.rank) (rows_none c.args.rank) (read_binary c.args.text.now (Some 64) (tighter (c.args.rank + 1)) (read_unary c.args.text.now (Some 64) c.args.room)) c.args.tokens.now c.args.from c.loop-op.invariant.going (sym c.operator_at.ensures.value ∙ c.in_default.is)

pub behind_colon-returns-then-sees-clause-gives : goal.behind_colon-returns-then-sees-clause-gives
unfolding read_behind_colon
behind_colon-returns-then-sees-clause-gives t c =
    let colon = heads_sign c.args.text.now (mark_kind m.Colon) (drop c.args.from c.args.tokens.now) true (omega arith) (sym c.sees.ensures.value ∙ c.if-sees.true) in
    λ first s. behind (SeesBracket c.range_end.new.names.keys c.range_end.new.nodes.items (length c.range_end.new.nodes.items)) c.args.tokens.now c.args.from c.args.from _ (read_stop c.args.text.now (read_expr c.args.text.now (Some 64) c.args.room) first absent c.args.place (drop c.args.from c.args.tokens.now)) c.range_end.result (le_refl _) (rw colon refl) (c.range_end.ensures.gives first absent s refl)

pub behind_colon-returns-then-not-begins_expr-clause-gives : goal.behind_colon-returns-then-not-begins_expr-clause-gives
unfolding read_behind_colon
behind_colon-returns-then-not-begins_expr-clause-gives t c =
    let colon = heads_sign c.args.text.now (mark_kind m.Colon) (drop c.args.from c.args.tokens.now) false (omega arith) (sym c.sees.ensures.value ∙ c.if-sees.false) in
    let none = sym c.begins_expr.ensures ∙ c.if-not-begins_expr.true in
    λ first s. (range first absent absent c.args.place, (_, _, _, refl, s, refl, refl), le_refl _, c.requires.within, rw (colon, none) refl)

pub behind_colon-returns-in_err-middle-clause-gives : goal.behind_colon-returns-in_err-middle-clause-gives
unfolding read_behind_colon
behind_colon-returns-in_err-middle-clause-gives t c =
    let colon = heads_sign c.args.text.now (mark_kind m.Colon) (drop c.args.from c.args.tokens.now) false (omega arith) (sym c.sees.ensures.value ∙ c.if-sees.false) in
    let some = sym c.begins_expr.ensures ∙ c.if-not-begins_expr.false in
    let p = err_from_is_err_and c.from_residual.result c.from_residual.ensures.1 in
    λ first s. rw (p.1, p.2) (exit (λ (x : ExprId) (a : Tree). Sees c.expr.new.names.keys c.expr.new.nodes.items x.0 a) (SeesBracket c.expr.new.names.keys c.expr.new.nodes.items (length c.expr.new.nodes.items)) c.args.tokens.now c.args.from c.args.from (read_expr c.args.text.now (Some 64) c.args.room (drop c.args.from c.args.tokens.now)) _ c.in_err-middle.field-0.0 (λ x h. rw (colon, some, h) refl) (le_refl _) c.in_err-middle.ensures.gives)

pub behind_colon-range_end-requires-then-sees-2 : goal.behind_colon-range_end-requires-then-sees-2
behind_colon-range_end-requires-then-sees-2 t c =
    let g = c.in_ok-middle.ensures.gives in
    let more = c.in_ok-middle.ensures.added in
    (search rules, (g.3, (c.requires.cut, (omega (arith, more), (omega (arith, more), (maybe_longer _ _ (nodes_longer c.expr.ensures.grows) c.args.start c.requires.start, sees_below c.expr.new.names.keys c.expr.new.nodes.items g.0 c.in_ok-middle.middle.0 g.1))))))

pub behind_colon-returns-then-sees-2-clause-gives : goal.behind_colon-returns-then-sees-2-clause-gives
unfolding read_behind_colon
behind_colon-returns-then-sees-2-clause-gives t c =
    let colon = heads_sign c.args.text.now (mark_kind m.Colon) (drop c.args.from c.args.tokens.now) false (omega arith) (sym c.sees.ensures.value ∙ c.if-sees.false) in
    let some = sym c.begins_expr.ensures ∙ c.if-not-begins_expr.false in
    let g = c.in_ok-middle.ensures.gives in
    let end = heads_sign c.args.text.now (mark_kind m.Colon) (drop c.in_ok-middle.at c.args.tokens.now) true (omega arith) (sym c.sees-2.ensures.value ∙ c.if-sees-2.true) in
    λ first s. behind (SeesBracket c.range_end-then-sees-2.new.names.keys c.range_end-then-sees-2.new.nodes.items (length c.range_end-then-sees-2.new.nodes.items)) c.args.tokens.now c.args.from c.in_ok-middle.at _ (read_stop c.args.text.now (read_expr c.args.text.now (Some 64) c.args.room) first (present g.0) c.args.place (drop c.in_ok-middle.at c.args.tokens.now)) c.range_end-then-sees-2.result g.2 (rw (colon, some, g.4, end) refl) (c.range_end-then-sees-2.ensures.gives first (present g.0) (maybe_on c.expr.ensures.grows first c.args.start s) (_, refl, sees_below c.expr.new.names.keys c.expr.new.nodes.items g.0 c.in_ok-middle.middle.0 g.1, g.1))

pub behind_colon-returns-then-sees-2-clause-grows : goal.behind_colon-returns-then-sees-2-clause-grows
behind_colon-returns-then-sees-2-clause-grows t c =
    grows_on _ _ _ _ _ _ c.expr.ensures.grows c.range_end-then-sees-2.ensures.grows

pub behind_colon-returns-clause-gives : goal.behind_colon-returns-clause-gives
unfolding read_behind_colon
behind_colon-returns-clause-gives t c =
    let colon = heads_sign c.args.text.now (mark_kind m.Colon) (drop c.args.from c.args.tokens.now) false (omega arith) (sym c.sees.ensures.value ∙ c.if-sees.false) in
    let some = sym c.begins_expr.ensures ∙ c.if-not-begins_expr.false in
    let g = c.in_ok-middle.ensures.gives in
    let end = heads_sign c.args.text.now (mark_kind m.Colon) (drop c.in_ok-middle.at c.args.tokens.now) false (omega arith) (sym c.sees-2.ensures.value ∙ c.if-sees-2.false) in
    λ first s. (range first absent (present g.0) c.args.place, (_, _, _, refl, maybe_on c.expr.ensures.grows first c.args.start s, refl, (_, refl, sees_below c.expr.new.names.keys c.expr.new.nodes.items g.0 c.in_ok-middle.middle.0 g.1, g.1)), g.2, g.3, rw (colon, some, g.4, end) refl)

pub behind_colon-returns-clause-fits : goal.behind_colon-returns-clause-fits
behind_colon-returns-clause-fits t c =
    let g = c.in_ok-middle.ensures.gives in
    (maybe_longer _ _ (nodes_longer c.expr.ensures.grows) c.args.start c.requires.start, tt, sees_below c.expr.new.names.keys c.expr.new.nodes.items g.0 c.in_ok-middle.middle.0 g.1)

pub range_end-returns-in_err-at-clause-gives : goal.range_end-returns-in_err-at-clause-gives
range_end-returns-in_err-at-clause-gives t c =
    let p = err_from_is_err_and c.from_residual.result c.from_residual.ensures.1 in
    λ first second s u. rw (p.1, p.2) (exit_mark (SeesBracket c.args.names.now.keys c.args.nodes.now.items (length c.args.nodes.now.items)) c.args.tokens.now c.args.from c.args.from (read_sign c.args.text.now (mark_kind m.Colon) (drop c.args.from c.args.tokens.now)) _ c.in_err-at.field-0.0 (λ x h. rw h refl) (le_refl _) c.requires.within c.in_err-at.ensures)

pub range_end-returns-in_err-last-clause-gives : goal.range_end-returns-in_err-last-clause-gives
range_end-returns-in_err-last-clause-gives t c =
    let k = c.in_ok-at.ensures in
    let p = err_from_is_err_and c.from_residual-in_err-last.result c.from_residual-in_err-last.ensures.1 in
    λ first second s u. rw (p.1, p.2) (exit (λ (x : ExprId) (a : Tree). Sees c.expr.new.names.keys c.expr.new.nodes.items x.0 a) (SeesBracket c.expr.new.names.keys c.expr.new.nodes.items (length c.expr.new.nodes.items)) c.args.tokens.now c.args.from c.in_ok-at.at (read_expr c.args.text.now (Some 64) c.args.room (drop c.in_ok-at.at c.args.tokens.now)) _ c.in_err-last.field-0.0 (λ x h. rw (k.4, h) refl) (omega (arith, k.1)) c.in_err-last.ensures.gives)

pub range_end-returns-clause-gives : goal.range_end-returns-clause-gives
range_end-returns-clause-gives t c =
    let k = c.in_ok-at.ensures in
    let g = c.in_ok-last.ensures.gives in
    λ first second s u. (range first second (present g.0) c.args.place, (_, _, _, refl, maybe_on c.expr.ensures.grows first c.args.start s, maybe_on c.expr.ensures.grows second c.args.step u, (_, refl, sees_below c.expr.new.names.keys c.expr.new.nodes.items g.0 c.in_ok-last.last.0 g.1, g.1)), omega (arith, k.1, g.2), g.3, rw (k.4, g.4) refl)

pub range_end-returns-clause-fits : goal.range_end-returns-clause-fits
range_end-returns-clause-fits t c =
    let g = c.in_ok-last.ensures.gives in
    (maybe_longer _ _ (nodes_longer c.expr.ensures.grows) c.args.start c.requires.start, maybe_longer _ _ (nodes_longer c.expr.ensures.grows) c.args.step c.requires.step, sees_below c.expr.new.names.keys c.expr.new.nodes.items g.0 c.in_ok-last.last.0 g.1)

pub behind_name-returns-in_err-called-clause-grows : goal.behind_name-returns-in_err-called-clause-grows
behind_name-returns-in_err-called-clause-grows t c =
    grows_kept _ _ _ _ c.in_err-called.ensures.err refl

pub behind_name-returns-in_err-inside-clause-gives : goal.behind_name-returns-in_err-inside-clause-gives
unfolding read_behind_name read_between
behind_name-returns-in_err-inside-clause-gives t c =
    let paren = heads_sign c.args.text.now (mark_kind m.LeftParen) (drop c.args.from c.args.tokens.now) true (omega arith) (sym c.sees.ensures.value ∙ c.if-sees.true) in
    let p = err_from_is_err_and c.from_residual-in_err-inside.result c.from_residual-in_err-inside.ensures.1 in
    rw (p.1, p.2) (exit_mark (λ (x : ExprId) (a : Tree). Sees c.intern.new.names.keys c.args.nodes.now.items x.0 a) c.args.tokens.now c.args.from c.args.from (read_opener c.args.text.now c.args.room (mark_kind m.LeftParen) (drop c.args.from c.args.tokens.now)) _ c.in_err-inside.field-0.0 (λ x h. rw (paren, h) refl) (le_refl _) c.requires.within c.in_err-inside.ensures.passes)

pub behind_name-returns-in_err-inside-clause-grows : goal.behind_name-returns-in_err-inside-clause-grows
behind_name-returns-in_err-inside-clause-grows t c =
    grows_name c.args.names.now.keys c.intern.new.names.keys c.args.nodes.now.items _ c.in_ok-called.ensures.kept c.requires.size

pub behind_name-returns-in_err-args-clause-gives : goal.behind_name-returns-in_err-args-clause-gives
unfolding read_behind_name read_between
behind_name-returns-in_err-args-clause-gives t c =
    let paren = heads_sign c.args.text.now (mark_kind m.LeftParen) (drop c.args.from c.args.tokens.now) true (omega arith) (sym c.sees.ensures.value ∙ c.if-sees.true) in
    let o = c.in_ok-inside.ensures.passes in
    let deeper = ap (λ r. read_list c.args.text.now false r (drop c.in_ok-inside.inside c.args.tokens.now)) (deeper_expr_at c.args.text.now c.args.room c.in_ok-inside.ensures.has_room) in
    let p = err_from_is_err_and c.from_residual-in_err-args.result c.from_residual-in_err-args.ensures.1 in
    rw (p.1, p.2) (exit (λ (v : Vec ExprId Global) (ts : List Tree). SeesAll c.list.new.names.keys c.list.new.nodes.items (length c.list.new.nodes.items) v.items (trees ts)) (λ (x : ExprId) (a : Tree). Sees c.list.new.names.keys c.list.new.nodes.items x.0 a) c.args.tokens.now c.args.from c.in_ok-inside.inside (read_list c.args.text.now false (read_expr c.args.text.now (Some 64) (c.args.room - 1)) (drop c.in_ok-inside.inside c.args.tokens.now)) _ c.in_err-args.field-0.0 (λ x h. rw (paren, o.4, deeper, h) refl) (omega (arith, o.1)) c.in_err-args.ensures.gives)

pub behind_name-returns-in_err-args-clause-grows : goal.behind_name-returns-in_err-args-clause-grows
behind_name-returns-in_err-args-clause-grows t c =
    grows_on _ _ _ _ _ _ (grows_name c.args.names.now.keys c.intern.new.names.keys c.args.nodes.now.items _ c.in_ok-called.ensures.kept c.requires.size) c.list.ensures.grows

pub behind_name-returns-in_err-at-clause-gives : goal.behind_name-returns-in_err-at-clause-gives
unfolding read_behind_name read_between
behind_name-returns-in_err-at-clause-gives t c =
    let paren = heads_sign c.args.text.now (mark_kind m.LeftParen) (drop c.args.from c.args.tokens.now) true (omega arith) (sym c.sees.ensures.value ∙ c.if-sees.true) in
    let o = c.in_ok-inside.ensures.passes in
    let deeper = ap (λ r. read_list c.args.text.now false r (drop c.in_ok-inside.inside c.args.tokens.now)) (deeper_expr_at c.args.text.now c.args.room c.in_ok-inside.ensures.has_room) in
    let r = c.in_ok-args.ensures.gives in
    let p = err_from_is_err_and c.from_residual-in_err-at.result c.from_residual-in_err-at.ensures.1 in
    rw (p.1, p.2) (exit_mark (λ (x : ExprId) (a : Tree). Sees c.list.new.names.keys c.list.new.nodes.items x.0 a) c.args.tokens.now c.args.from c.in_ok-args.at (read_sign c.args.text.now (mark_kind m.RightParen) (drop c.in_ok-args.at c.args.tokens.now)) _ c.in_err-at.field-0.0 (λ x h. rw (paren, o.4, deeper, r.4, h) refl) (omega (arith, o.1, r.2)) r.3 c.in_err-at.ensures)

pub behind_name-returns-in_err-at-clause-grows : goal.behind_name-returns-in_err-at-clause-grows
behind_name-returns-in_err-at-clause-grows t c =
    grows_on _ _ _ _ _ _ (grows_name c.args.names.now.keys c.intern.new.names.keys c.args.nodes.now.items _ c.in_ok-called.ensures.kept c.requires.size) c.list.ensures.grows

pub behind_name-returns-in_err-node-clause-grows : goal.behind_name-returns-in_err-node-clause-grows
behind_name-returns-in_err-node-clause-grows t c =
    subst (λ l. Grows c.args.names.now.keys c.list.new.names.keys c.args.nodes.now.items l) (sym c.in_err-node.ensures.err) (grows_on _ _ _ _ _ _ (grows_name c.args.names.now.keys c.intern.new.names.keys c.args.nodes.now.items _ c.in_ok-called.ensures.kept c.requires.size) c.list.ensures.grows)

pub behind_name-returns-then-sees-clause-gives : goal.behind_name-returns-then-sees-clause-gives
unfolding read_behind_name read_between
behind_name-returns-then-sees-clause-gives t c =
    let paren = heads_sign c.args.text.now (mark_kind m.LeftParen) (drop c.args.from c.args.tokens.now) true (omega arith) (sym c.sees.ensures.value ∙ c.if-sees.true) in
    let o = c.in_ok-inside.ensures.passes in
    let deeper = ap (λ r. read_list c.args.text.now false r (drop c.in_ok-inside.inside c.args.tokens.now)) (deeper_expr_at c.args.text.now c.args.room c.in_ok-inside.ensures.has_room) in
    let r = c.in_ok-args.ensures.gives in
    let k = c.in_ok-at.ensures in
    let named_there = name_later c.list.ensures.grows c.in_ok-called.called _ c.in_ok-called.ensures.found in
    let a = grows_add c.list.new.names.keys c.list.new.nodes.items c.add.new.nodes.items _ _ c.in_ok-node.ensures.items (get_below c.list.new.names.keys c.in_ok-called.called _ named_there, c.in_ok-args.ensures.fits) in
    let found = last_found c.list.new.nodes.items c.add.new.nodes.items _ c.in_ok-node.node.0 c.in_ok-node.ensures.items c.in_ok-node.ensures.id in
    let same : length c.list.new.nodes.items ≤ c.in_ok-node.node.0 = omega (arith, c.in_ok-node.ensures.id) in
    let all = all_wider c.list.new.names.keys c.add.new.nodes.items (length c.list.new.nodes.items) c.in_ok-node.node.0 same (trees r.0) c.in_ok-args.args.items (all_later a (trees r.0) (length c.list.new.nodes.items) c.in_ok-args.args.items r.1) in
    (call (bytes_of c.args.text.now c.args.token) (trees r.0) c.args.token.at, (c.in_ok-called.called, c.in_ok-args.args.items, found, named_there, all), omega (arith, o.1, r.2, k.1), k.2, rw (paren, o.4, deeper, r.4, k.4) refl)

pub behind_name-returns-then-sees-clause-grows : goal.behind_name-returns-then-sees-clause-grows
behind_name-returns-then-sees-clause-grows t c =
    let named_there = name_later c.list.ensures.grows c.in_ok-called.called _ c.in_ok-called.ensures.found in
    let a = grows_add c.list.new.names.keys c.list.new.nodes.items c.add.new.nodes.items _ _ c.in_ok-node.ensures.items (get_below c.list.new.names.keys c.in_ok-called.called _ named_there, c.in_ok-args.ensures.fits) in
    grows_on _ _ _ _ _ _ (grows_on _ _ _ _ _ _ (grows_name c.args.names.now.keys c.intern.new.names.keys c.args.nodes.now.items _ c.in_ok-called.ensures.kept c.requires.size) c.list.ensures.grows) a

pub behind_name-returns-in_err-index-clause-gives : goal.behind_name-returns-in_err-index-clause-gives
unfolding read_behind_name
behind_name-returns-in_err-index-clause-gives t c =
    let paren = heads_sign c.args.text.now (mark_kind m.LeftParen) (drop c.args.from c.args.tokens.now) false (omega arith) (sym c.sees.ensures.value ∙ c.if-sees.false) in
    let p = err_from_is_err_and c.from_residual-in_err-index.result c.from_residual-in_err-index.ensures.1 in
    rw (p.1, p.2) (exit (λ (v : Vec IndexRef Global) (bs : List Bracket). SeesBrackets c.indexes.new.names.keys c.indexes.new.nodes.items (length c.indexes.new.nodes.items) v.items (brackets bs)) (λ (x : ExprId) (a : Tree). Sees c.indexes.new.names.keys c.indexes.new.nodes.items x.0 a) c.args.tokens.now c.args.from c.args.from (read_indexes c.args.text.now c.args.room (deeper_content c.args.text.now c.args.room) (drop c.args.from c.args.tokens.now)) _ c.in_err-index.field-0.0 (λ x h. rw (paren, h) refl) (le_refl _) c.in_err-index.ensures.gives)

pub behind_name-returns-in_err-index-clause-grows : goal.behind_name-returns-in_err-index-clause-grows
behind_name-returns-in_err-index-clause-grows t c =
    grows_on _ _ _ _ _ _ (grows_name c.args.names.now.keys c.intern.new.names.keys c.args.nodes.now.items _ c.in_ok-called.ensures.kept c.requires.size) c.indexes.ensures.grows

pub behind_name-returns-in_err-node-2-clause-grows : goal.behind_name-returns-in_err-node-2-clause-grows
behind_name-returns-in_err-node-2-clause-grows t c =
    subst (λ l. Grows c.args.names.now.keys c.indexes.new.names.keys c.args.nodes.now.items l) (sym c.in_err-node-2.ensures.err) (grows_on _ _ _ _ _ _ (grows_name c.args.names.now.keys c.intern.new.names.keys c.args.nodes.now.items _ c.in_ok-called.ensures.kept c.requires.size) c.indexes.ensures.grows)

pub behind_name-returns-clause-gives : goal.behind_name-returns-clause-gives
unfolding read_behind_name
behind_name-returns-clause-gives t c =
    let paren = heads_sign c.args.text.now (mark_kind m.LeftParen) (drop c.args.from c.args.tokens.now) false (omega arith) (sym c.sees.ensures.value ∙ c.if-sees.false) in
    let r = c.in_ok-index.ensures.gives in
    let named_there = name_later c.indexes.ensures.grows c.in_ok-called.called _ c.in_ok-called.ensures.found in
    let a = grows_add c.indexes.new.names.keys c.indexes.new.nodes.items c.add-2.new.nodes.items _ _ c.in_ok-node-2.ensures.items (record { name = get_below c.indexes.new.names.keys c.in_ok-called.called _ named_there; index = c.in_ok-index.ensures.fits }) in
    let found = last_found c.indexes.new.nodes.items c.add-2.new.nodes.items _ c.in_ok-node-2.node.0 c.in_ok-node-2.ensures.items c.in_ok-node-2.ensures.id in
    let same : length c.indexes.new.nodes.items ≤ c.in_ok-node-2.node.0 = omega (arith, c.in_ok-node-2.ensures.id) in
    let all = brackets_wider c.indexes.new.names.keys c.add-2.new.nodes.items (length c.indexes.new.nodes.items) c.in_ok-node-2.node.0 same (brackets r.0) c.in_ok-index.index.items (brackets_later a (brackets r.0) (length c.indexes.new.nodes.items) c.in_ok-index.index.items r.1) in
    (named (word (bytes_of c.args.text.now c.args.token)) (brackets r.0) c.args.token.at c.args.token.at, (_, found, (c.in_ok-called.called, refl, named_there), refl, all), r.2, r.3, rw (paren, r.4) refl)

pub behind_name-returns-clause-grows : goal.behind_name-returns-clause-grows
behind_name-returns-clause-grows t c =
    let named_there = name_later c.indexes.ensures.grows c.in_ok-called.called _ c.in_ok-called.ensures.found in
    let a = grows_add c.indexes.new.names.keys c.indexes.new.nodes.items c.add-2.new.nodes.items _ _ c.in_ok-node-2.ensures.items (record { name = get_below c.indexes.new.names.keys c.in_ok-called.called _ named_there; index = c.in_ok-index.ensures.fits }) in
    grows_on _ _ _ _ _ _ (grows_on _ _ _ _ _ _ (grows_name c.args.names.now.keys c.intern.new.names.keys c.args.nodes.now.items _ c.in_ok-called.ensures.kept c.requires.size) c.indexes.ensures.grows) a

pub cast-returns-clause-gives : goal.cast-returns-clause-gives
unfolding read_cast
cast-returns-clause-gives t c =
    let y = c.in_ok-ty.ensures.gives in
    let r = c.in_ok-operand.ensures.gives in
    let longer = nodes_longer c.between.ensures.grows in
    let below = sees_below c.between.new.names.keys c.between.new.nodes.items r.0 c.in_ok-operand.operand.0 r.1 in
    let a = grows_add c.between.new.names.keys c.between.new.nodes.items c.add.new.nodes.items (e.Cast c.in_ok-ty.ty c.in_ok-operand.operand) _ c.in_ok-node.ensures.items (type_longer _ _ longer c.in_ok-ty.ty y.1.3, below) in
    let found = last_found c.between.new.nodes.items c.add.new.nodes.items _ c.in_ok-node.node.0 c.in_ok-node.ensures.items c.in_ok-node.ensures.id in
    let later : length c.scalar.new.nodes.items ≤ c.in_ok-node.node.0 = omega (arith, longer, c.in_ok-node.ensures.id) in
    let width = maybe_wider c.between.new.names.keys c.add.new.nodes.items (length c.scalar.new.nodes.items) c.in_ok-node.node.0 later y.0.width c.in_ok-ty.ty.width (maybe_later (grows_on _ _ _ _ _ _ c.between.ensures.grows a) y.0.width (length c.scalar.new.nodes.items) c.in_ok-ty.ty.width y.1.2) in
    (cast_tree y.0.base y.0.width y.0.place r.0 y.0.place, (c.in_ok-ty.ty, c.in_ok-operand.operand, found ∙ ap (λ z. Some (record { kind = e.Cast c.in_ok-ty.ty c.in_ok-operand.operand; at = z })) y.1.1, y.1.0, y.1.1, omega (arith, c.in_ok-node.ensures.id, below), width, sees_later a r.0 c.in_ok-operand.operand.0 r.1), omega (arith, y.2, r.2), r.3, rw (y.4, r.4) refl)

pub cast-returns-clause-grows : goal.cast-returns-clause-grows
cast-returns-clause-grows t c =
    let y = c.in_ok-ty.ensures.gives in
    let r = c.in_ok-operand.ensures.gives in
    let longer = nodes_longer c.between.ensures.grows in
    let below = sees_below c.between.new.names.keys c.between.new.nodes.items r.0 c.in_ok-operand.operand.0 r.1 in
    let a = grows_add c.between.new.names.keys c.between.new.nodes.items c.add.new.nodes.items (e.Cast c.in_ok-ty.ty c.in_ok-operand.operand) _ c.in_ok-node.ensures.items (type_longer _ _ longer c.in_ok-ty.ty y.1.3, below) in
    grows_on _ _ _ _ _ _ (grows_on _ _ _ _ _ _ c.scalar.ensures.grows c.between.ensures.grows) a

pub content-returns-in_err-inside-clause-gives : goal.content-returns-in_err-inside-clause-gives
unfolding read_content read_set
content-returns-in_err-inside-clause-gives t c =
    let brace = heads_sign c.args.text.now (mark_kind m.LeftBrace) (drop c.args.from c.args.tokens.now) true (omega arith) (sym c.sees.ensures.value ∙ c.if-sees.true) in
    let p = err_from_is_err_and c.from_residual.result c.from_residual.ensures.1 in
    rw (p.1, p.2) (exit_mark (SeesBracket c.args.names.now.keys c.args.nodes.now.items (length c.args.nodes.now.items)) c.args.tokens.now c.args.from c.args.from (read_opener c.args.text.now c.args.room (mark_kind m.LeftBrace) (drop c.args.from c.args.tokens.now)) _ c.in_err-inside.field-0.0 (λ x h. rw (brace, h) refl) (le_refl _) c.requires.within c.in_err-inside.ensures.passes)

pub content-returns-in_err-members-clause-gives : goal.content-returns-in_err-members-clause-gives
unfolding read_content read_set
content-returns-in_err-members-clause-gives t c =
    let brace = heads_sign c.args.text.now (mark_kind m.LeftBrace) (drop c.args.from c.args.tokens.now) true (omega arith) (sym c.sees.ensures.value ∙ c.if-sees.true) in
    let o = c.in_ok-inside.ensures.passes in
    let deeper = ap (λ r. read_list c.args.text.now true r (drop c.in_ok-inside.inside c.args.tokens.now)) (deeper_expr_at c.args.text.now c.args.room c.in_ok-inside.ensures.has_room) in
    let p = err_from_is_err_and c.from_residual-in_err-members.result c.from_residual-in_err-members.ensures.1 in
    rw (p.1, p.2) (exit (λ (v : Vec ExprId Global) (ts : List Tree). SeesAll c.list.new.names.keys c.list.new.nodes.items (length c.list.new.nodes.items) v.items (trees ts)) (SeesBracket c.list.new.names.keys c.list.new.nodes.items (length c.list.new.nodes.items)) c.args.tokens.now c.args.from c.in_ok-inside.inside (read_list c.args.text.now true (read_expr c.args.text.now (Some 64) (c.args.room - 1)) (drop c.in_ok-inside.inside c.args.tokens.now)) _ c.in_err-members.field-0.0 (λ x h. rw (brace, o.4, deeper, h) refl) (omega (arith, o.1)) c.in_err-members.ensures.gives)

pub content-returns-in_err-at-clause-gives : goal.content-returns-in_err-at-clause-gives
unfolding read_content read_set
content-returns-in_err-at-clause-gives t c =
    let brace = heads_sign c.args.text.now (mark_kind m.LeftBrace) (drop c.args.from c.args.tokens.now) true (omega arith) (sym c.sees.ensures.value ∙ c.if-sees.true) in
    let o = c.in_ok-inside.ensures.passes in
    let deeper = ap (λ r. read_list c.args.text.now true r (drop c.in_ok-inside.inside c.args.tokens.now)) (deeper_expr_at c.args.text.now c.args.room c.in_ok-inside.ensures.has_room) in
    let r = c.in_ok-members.ensures.gives in
    let p = err_from_is_err_and c.from_residual-in_err-at.result c.from_residual-in_err-at.ensures.1 in
    rw (p.1, p.2) (exit_mark (SeesBracket c.list.new.names.keys c.list.new.nodes.items (length c.list.new.nodes.items)) c.args.tokens.now c.args.from c.in_ok-members.at (read_sign c.args.text.now (mark_kind m.RightBrace) (drop c.in_ok-members.at c.args.tokens.now)) _ c.in_err-at.field-0.0 (λ x h. rw (brace, o.4, deeper, r.4, h) refl) (omega (arith, o.1, r.2)) r.3 c.in_err-at.ensures)

pub content-returns-then-sees-clause-gives : goal.content-returns-then-sees-clause-gives
unfolding read_content read_set
content-returns-then-sees-clause-gives t c =
    let brace = heads_sign c.args.text.now (mark_kind m.LeftBrace) (drop c.args.from c.args.tokens.now) true (omega arith) (sym c.sees.ensures.value ∙ c.if-sees.true) in
    let o = c.in_ok-inside.ensures.passes in
    let deeper = ap (λ r. read_list c.args.text.now true r (drop c.in_ok-inside.inside c.args.tokens.now)) (deeper_expr_at c.args.text.now c.args.room c.in_ok-inside.ensures.has_room) in
    let r = c.in_ok-members.ensures.gives in
    let k = c.in_ok-at.ensures in
    (members (trees r.0), (_, refl, r.1), omega (arith, o.1, r.2, k.1), k.2, rw (brace, o.4, deeper, r.4, k.4) refl)

pub content-returns-then-sees-2-clause-gives : goal.content-returns-then-sees-2-clause-gives
unfolding read_content
content-returns-then-sees-2-clause-gives t c =
    let brace = heads_sign c.args.text.now (mark_kind m.LeftBrace) (drop c.args.from c.args.tokens.now) false (omega arith) (sym c.sees.ensures.value ∙ c.if-sees.false) in
    let colon = heads_sign c.args.text.now (mark_kind m.Colon) (drop c.args.from c.args.tokens.now) true (omega arith) (sym c.sees-2.ensures.value ∙ c.if-sees-2.true) in
    let k = passes_yes c.args.text.now c.args.tokens.now c.args.from (mark_kind m.Colon) (omega arith) c.requires.within (sym c.sees-2.ensures.value ∙ c.if-sees-2.true) in
    let is = token_is c.args.tokens.now c.args.from _ k.0 _ k.3 in
    behind (SeesBracket c.behind_colon.new.names.keys c.behind_colon.new.nodes.items (length c.behind_colon.new.nodes.items)) c.args.tokens.now c.args.from (c.args.from + 1) (read_content c.args.text.now c.args.room (read_expr c.args.text.now (Some 64) c.args.room) (deeper_expr c.args.text.now c.args.room) (drop c.args.from c.args.tokens.now)) _ c.behind_colon.result (omega arith) (rw (brace, colon, k.4) (ap (λ (x : Token). read_behind_colon c.args.text.now (read_expr c.args.text.now (Some 64) c.args.room) absent x.at (drop (c.args.from + 1) c.args.tokens.now)) (sym is))) (c.behind_colon.ensures.gives absent refl)

pub content-returns-in_err-start-clause-gives : goal.content-returns-in_err-start-clause-gives
unfolding read_content
content-returns-in_err-start-clause-gives t c =
    let brace = heads_sign c.args.text.now (mark_kind m.LeftBrace) (drop c.args.from c.args.tokens.now) false (omega arith) (sym c.sees.ensures.value ∙ c.if-sees.false) in
    let colon = heads_sign c.args.text.now (mark_kind m.Colon) (drop c.args.from c.args.tokens.now) false (omega arith) (sym c.sees-2.ensures.value ∙ c.if-sees-2.false) in
    let p = err_from_is_err_and c.from_residual-in_err-start.result c.from_residual-in_err-start.ensures.1 in
    rw (p.1, p.2) (exit (λ (x : ExprId) (a : Tree). Sees c.expr.new.names.keys c.expr.new.nodes.items x.0 a) (SeesBracket c.expr.new.names.keys c.expr.new.nodes.items (length c.expr.new.nodes.items)) c.args.tokens.now c.args.from c.args.from (read_expr c.args.text.now (Some 64) c.args.room (drop c.args.from c.args.tokens.now)) _ c.in_err-start.field-0.0 (λ x h. rw (brace, colon, h) refl) (le_refl _) c.in_err-start.ensures.gives)

pub content-returns-then-not-sees-clause-gives : goal.content-returns-then-not-sees-clause-gives
unfolding read_content read_behind_start
content-returns-then-not-sees-clause-gives t c =
    let brace = heads_sign c.args.text.now (mark_kind m.LeftBrace) (drop c.args.from c.args.tokens.now) false (omega arith) (sym c.sees.ensures.value ∙ c.if-sees.false) in
    let colon = heads_sign c.args.text.now (mark_kind m.Colon) (drop c.args.from c.args.tokens.now) false (omega arith) (sym c.sees-2.ensures.value ∙ c.if-sees-2.false) in
    let g = c.in_ok-start.ensures.gives in
    let end = heads_sign c.args.text.now (mark_kind m.Colon) (drop c.in_ok-start.at c.args.tokens.now) false (omega arith) (sym c.sees-3.ensures.value ∙ c.if-not-sees.true) in
    (position g.0, (_, refl, sees_below c.expr.new.names.keys c.expr.new.nodes.items g.0 c.in_ok-start.start.0 g.1, g.1), g.2, g.3, rw (brace, colon, g.4, end) refl)

pub content-index-requires : goal.content-index-requires
content-index-requires t c =
    let g = c.in_ok-start.ensures.gives in
    subst (λ n. c.in_ok-start.start.0 < n) (sym c.expr.new.nodes.ok.0) (sees_below c.expr.new.names.keys c.expr.new.nodes.items g.0 c.in_ok-start.start.0 g.1)

pub content-returns-clause-gives : goal.content-returns-clause-gives
unfolding read_content read_behind_start
content-returns-clause-gives t c =
    let brace = heads_sign c.args.text.now (mark_kind m.LeftBrace) (drop c.args.from c.args.tokens.now) false (omega arith) (sym c.sees.ensures.value ∙ c.if-sees.false) in
    let colon = heads_sign c.args.text.now (mark_kind m.Colon) (drop c.args.from c.args.tokens.now) false (omega arith) (sym c.sees-2.ensures.value ∙ c.if-sees-2.false) in
    let g = c.in_ok-start.ensures.gives in
    let more = heads_sign c.args.text.now (mark_kind m.Colon) (drop c.in_ok-start.at c.args.tokens.now) true (omega arith) (sym c.sees-3.ensures.value ∙ c.if-not-sees.false) in
    let k = passes_yes c.args.text.now c.args.tokens.now c.in_ok-start.at (mark_kind m.Colon) (omega arith) g.3 (sym c.sees-3.ensures.value ∙ c.if-not-sees.false) in
    let below = sees_below c.expr.new.names.keys c.expr.new.nodes.items g.0 c.in_ok-start.start.0 g.1 in
    let le : c.args.from ≤ c.in_ok-start.at + 1 = omega (arith, g.2) in
    behind (SeesBracket c.behind_colon-2.new.names.keys c.behind_colon-2.new.nodes.items (length c.behind_colon-2.new.nodes.items)) c.args.tokens.now c.args.from (c.in_ok-start.at + 1) (read_content c.args.text.now c.args.room (read_expr c.args.text.now (Some 64) c.args.room) (deeper_expr c.args.text.now c.args.room) (drop c.args.from c.args.tokens.now)) (read_behind_colon c.args.text.now (read_expr c.args.text.now (Some 64) c.args.room) (present g.0) c.index.result.now.at (drop (c.in_ok-start.at + 1) c.args.tokens.now)) c.behind_colon-2.result le (rw (brace, colon, g.4, more, k.4) (ap (λ p. read_behind_colon c.args.text.now (read_expr c.args.text.now (Some 64) c.args.room) (present g.0) p (drop (c.in_ok-start.at + 1) c.args.tokens.now)) (sym (sees_place c.expr.new.names.keys c.expr.new.nodes.items g.0 c.in_ok-start.start.0 c.index.result.now g.1 (slice_get-get_or c.expr.new.nodes.items c.in_ok-start.start.0 c.index.result.now below ∙ ap (λ x. Some x) (sym c.index.ensures)))))) (c.behind_colon-2.ensures.gives (present g.0) (_, refl, below, g.1))

pub content-behind_colon-requires-2 : goal.content-behind_colon-requires-2
content-behind_colon-requires-2 t c =
    let g = c.in_ok-start.ensures.gives in
    let more = c.in_ok-start.ensures.added in
    (search rules, (omega (arith, c.if-not-sees.ensures.inside), (c.requires.cut, (omega (arith, more), (omega (arith, more), sees_below c.expr.new.names.keys c.expr.new.nodes.items g.0 c.in_ok-start.start.0 g.1)))))

pub content-returns-then-not-sees-clause-fits : goal.content-returns-then-not-sees-clause-fits
content-returns-then-not-sees-clause-fits t c =
    let g = c.in_ok-start.ensures.gives in
    sees_below c.expr.new.names.keys c.expr.new.nodes.items g.0 c.in_ok-start.start.0 g.1

pub content-returns-clause-grows : goal.content-returns-clause-grows
content-returns-clause-grows t c =
    grows_on _ _ _ _ _ _ c.expr.ensures.grows c.behind_colon-2.ensures.grows

pub indexes-brackets-init : goal.indexes-brackets-init
indexes-brackets-init t c =
    record {
      bracketing = repeating_start c.args.text.now (mark_kind m.LeftBracket ∷ []) (read_index c.args.text.now c.args.room (deeper_content c.args.text.now c.args.room)) c.args.tokens.now c.args.from (λ js bs. SeesBrackets c.args.names.now.keys c.args.nodes.now.items (length c.args.nodes.now.items) js (brackets bs)) c.new-found.result.items c.new-found.ensures.items c.requires.within;
      fits = subst (All (IndexFits (length c.args.nodes.now.items))) (sym c.new-found.ensures.items) (All-nil (IndexFits (length c.args.nodes.now.items)));
      few = omega (arith, ap length c.new-found.ensures.items);
      grown = grows_same _ _;
      added = (le_refl _, le_refl _);
    }

pub indexes-returns-in_err-inside-clause-gives : goal.indexes-returns-in_err-inside-clause-gives
unfolding read_between
indexes-returns-in_err-inside-clause-gives t c =
    let g = c.brackets.invariant.bracketing in
    let le0 : c.args.from ≤ c.brackets.at = g.from_at in
    let here = heads_sign c.args.text.now (mark_kind m.LeftBracket) (drop c.brackets.at c.args.tokens.now) true (omega arith) (sym c.sees.ensures.value ∙ c.brackets-test.true) in
    let p = err_from_is_err_and c.from_residual.result c.from_residual.ensures.1 in
    rw (p.1, p.2) (exit_mark (λ (v : Vec IndexRef Global) (bs : List Bracket). SeesBrackets c.brackets.names.keys c.brackets.nodes.items (length c.brackets.nodes.items) v.items (brackets bs)) c.args.tokens.now c.args.from c.brackets.at (read_opener c.args.text.now c.args.room (mark_kind m.LeftBracket) (drop c.brackets.at c.args.tokens.now)) _ c.in_err-inside.field-0.0 (λ x h. repeating_err c.args.text.now (mark_kind m.LeftBracket ∷ []) (read_index c.args.text.now c.args.room (deeper_content c.args.text.now c.args.room)) c.args.tokens.now c.args.from g here x (rw h refl)) le0 g.at_end c.in_err-inside.ensures.passes)

pub indexes-returns-in_err-index-clause-gives : goal.indexes-returns-in_err-index-clause-gives
unfolding read_between
indexes-returns-in_err-index-clause-gives t c =
    let g = c.brackets.invariant.bracketing in
    let le0 : c.args.from ≤ c.brackets.at = g.from_at in
    let here = heads_sign c.args.text.now (mark_kind m.LeftBracket) (drop c.brackets.at c.args.tokens.now) true (omega arith) (sym c.sees.ensures.value ∙ c.brackets-test.true) in
    let o = c.in_ok-inside.ensures.passes in
    let p = err_from_is_err_and c.from_residual-in_err-index.result c.from_residual-in_err-index.ensures.1 in
    rw (p.1, p.2) (exit (SeesBracket c.content.new.names.keys c.content.new.nodes.items (length c.content.new.nodes.items)) (λ (v : Vec IndexRef Global) (bs : List Bracket). SeesBrackets c.content.new.names.keys c.content.new.nodes.items (length c.content.new.nodes.items) v.items (brackets bs)) c.args.tokens.now c.args.from c.in_ok-inside.inside (read_content c.args.text.now (c.args.room - 1) (read_expr c.args.text.now (Some 64) (c.args.room - 1)) (deeper_expr c.args.text.now (c.args.room - 1)) (drop c.in_ok-inside.inside c.args.tokens.now)) _ c.in_err-index.field-0.0 (λ x h. repeating_err c.args.text.now (mark_kind m.LeftBracket ∷ []) (read_index c.args.text.now c.args.room (deeper_content c.args.text.now c.args.room)) c.args.tokens.now c.args.from g here x (rw (o.4, ap (λ r. r (drop c.in_ok-inside.inside c.args.tokens.now)) (deeper_content_at c.args.text.now c.args.room c.in_ok-inside.ensures.has_room), h) refl)) (omega (arith, le0, o.1)) c.in_err-index.ensures.gives)

pub indexes-returns-in_err-index-clause-grows : goal.indexes-returns-in_err-index-clause-grows
indexes-returns-in_err-index-clause-grows t c =
    grows_on _ _ _ _ _ _ c.brackets.invariant.grown c.content.ensures.grows

pub indexes-returns-in_err-next-clause-gives : goal.indexes-returns-in_err-next-clause-gives
unfolding read_between
indexes-returns-in_err-next-clause-gives t c =
    let g = c.brackets.invariant.bracketing in
    let le0 : c.args.from ≤ c.brackets.at = g.from_at in
    let here = heads_sign c.args.text.now (mark_kind m.LeftBracket) (drop c.brackets.at c.args.tokens.now) true (omega arith) (sym c.sees.ensures.value ∙ c.brackets-test.true) in
    let o = c.in_ok-inside.ensures.passes in
    let r = c.in_ok-index.ensures.gives in
    let p = err_from_is_err_and c.from_residual-in_err-next.result c.from_residual-in_err-next.ensures.1 in
    rw (p.1, p.2) (exit_mark (λ (v : Vec IndexRef Global) (bs : List Bracket). SeesBrackets c.content.new.names.keys c.content.new.nodes.items (length c.content.new.nodes.items) v.items (brackets bs)) c.args.tokens.now c.args.from c.in_ok-index.next (read_sign c.args.text.now (mark_kind m.RightBracket) (drop c.in_ok-index.next c.args.tokens.now)) _ c.in_err-next.field-0.0 (λ x h. repeating_err c.args.text.now (mark_kind m.LeftBracket ∷ []) (read_index c.args.text.now c.args.room (deeper_content c.args.text.now c.args.room)) c.args.tokens.now c.args.from g here x (rw (o.4, ap (λ r. r (drop c.in_ok-inside.inside c.args.tokens.now)) (deeper_content_at c.args.text.now c.args.room c.in_ok-inside.ensures.has_room), r.4, h) refl)) (omega (arith, le0, o.1, r.2)) r.3 c.in_err-next.ensures)

pub indexes-returns-in_err-next-clause-grows : goal.indexes-returns-in_err-next-clause-grows
indexes-returns-in_err-next-clause-grows t c =
    grows_on _ _ _ _ _ _ c.brackets.invariant.grown c.content.ensures.grows

pub indexes-returns-then-is_err-clause-grows : goal.indexes-returns-then-is_err-clause-grows
indexes-returns-then-is_err-clause-grows t c =
    grows_on _ _ _ _ _ _ c.brackets.invariant.grown c.content.ensures.grows

pub indexes-brackets-preserved : goal.indexes-brackets-preserved
unfolding read_between
indexes-brackets-preserved t c =
    let g = c.brackets.invariant.bracketing in
    let le0 : c.args.from ≤ c.brackets.at = g.from_at in
    let here = heads_sign c.args.text.now (mark_kind m.LeftBracket) (drop c.brackets.at c.args.tokens.now) true (omega arith) (sym c.sees.ensures.value ∙ c.brackets-test.true) in
    let o = c.in_ok-inside.ensures.passes in
    let r = c.in_ok-index.ensures.gives in
    let k = c.in_ok-next.ensures in
    let more = c.in_ok-index.ensures.added in
    let until = c.brackets.invariant.added in
    let push = pushed c.push.result c.brackets.found.items c.push.new.self.items (c.brackets.found.items ++ c.in_ok-index.index ∷ []) c.push.ensures.items (sym c.is_err.ensures.value ∙ c.if-is_err.false) in
    let seen = brackets_with c.content.ensures.grows g.acc c.brackets.found.items c.push.new.self.items c.in_ok-index.index r.0 push g.sees r.1 in
    record {
      bracketing = repeating_more c.args.text.now (mark_kind m.LeftBracket ∷ []) (read_index c.args.text.now c.args.room (deeper_content c.args.text.now c.args.room)) c.args.tokens.now c.args.from g here (λ js bs. SeesBrackets c.content.new.names.keys c.content.new.nodes.items (length c.content.new.nodes.items) js (brackets bs)) c.in_ok-next.next r.0 c.push.new.self.items seen (omega (arith, o.1, r.2, k.1)) k.2 (rw (o.4, ap (λ r. r (drop c.in_ok-inside.inside c.args.tokens.now)) (deeper_content_at c.args.text.now c.args.room c.in_ok-inside.ensures.has_room), r.4, k.4) refl);
      fits = subst (All (IndexFits (length c.content.new.nodes.items))) (sym push) (All-push (IndexFits (length c.content.new.nodes.items)) c.brackets.found.items c.in_ok-index.index (All-weaker (IndexFits (length c.brackets.nodes.items)) (IndexFits (length c.content.new.nodes.items)) (index_longer (length c.brackets.nodes.items) (length c.content.new.nodes.items) (nodes_longer c.content.ensures.grows)) c.brackets.found.items c.brackets.invariant.fits) c.in_ok-index.ensures.fits);
      few = omega (arith, ap length push, length-append c.brackets.found.items (c.in_ok-index.index ∷ []), o.1, r.2, k.1);
      grown = grows_on _ _ _ _ _ _ c.brackets.invariant.grown c.content.ensures.grows;
      added = (omega (arith, more, until, o.1, k.1), omega (arith, more, until, o.1, k.1));
    }

pub indexes-returns-clause-gives : goal.indexes-returns-clause-gives
indexes-returns-clause-gives t c =
    let g = c.brackets.invariant.bracketing in
    (g.acc, g.sees, g.from_at, g.at_end, repeating_stop c.args.text.now (mark_kind m.LeftBracket ∷ []) (read_index c.args.text.now c.args.room (deeper_content c.args.text.now c.args.room)) c.args.tokens.now c.args.from g (heads_sign c.args.text.now (mark_kind m.LeftBracket) (drop c.brackets.at c.args.tokens.now) false (omega arith) (sym c.sees.ensures.value ∙ c.brackets-test.false)))

pub indexes-returns-clause-fits : goal.indexes-returns-clause-fits
indexes-returns-clause-fits t c =
    let g = c.brackets.invariant.bracketing in
    let end : c.brackets.at ≤ length c.args.tokens.now = g.at_end in
    record { count = omega arith; each = c.brackets.invariant.fits }

pub list-items-init : goal.list-items-init
unfolding read_list
list-items-init t c =
    record {
      listing = listing_start c.args.text.now expr_kinds (read_expr c.args.text.now (Some 64) c.args.room) c.args.tokens.now c.args.from (λ ids ts. SeesAll c.args.names.now.keys c.args.nodes.now.items (length c.args.nodes.now.items) ids (trees ts)) c.args.filled c.new-found.result.items c.new-found.ensures.items c.requires.within;
      few = omega (arith, ap length c.new-found.ensures.items);
      grown = grows_same _ _;
      added = (le_refl _, le_refl _);
    }

pub list-returns-in_err-item-clause-gives : goal.list-returns-in_err-item-clause-gives
list-returns-in_err-item-clause-gives t c =
    let g = c.items.invariant.listing in
    let p = err_from_is_err_and c.from_residual.result c.from_residual.ensures.1 in
    rw (p.1, p.2) (exit (λ (x : ExprId) (a : Tree). Sees c.expr.new.names.keys c.expr.new.nodes.items x.0 a) (λ (v : Vec ExprId Global) (ts : List Tree). SeesAll c.expr.new.names.keys c.expr.new.nodes.items (length c.expr.new.nodes.items) v.items (trees ts)) c.args.tokens.now c.args.from c.items.at ((read_expr c.args.text.now (Some 64) c.args.room) (drop c.items.at c.args.tokens.now)) _ c.in_err-item.field-0.0 (listing_err c.args.text.now expr_kinds (read_expr c.args.text.now (Some 64) c.args.room) c.args.tokens.now c.args.from g (sym c.may_take.ensures ∙ c.items-test.true)) g.from_at c.in_err-item.ensures.gives)

pub list-returns-in_err-item-clause-grows : goal.list-returns-in_err-item-clause-grows
list-returns-in_err-item-clause-grows t c =
    grows_on _ _ _ _ _ _ c.items.invariant.grown c.expr.ensures.grows

pub list-returns-then-is_err-clause-grows : goal.list-returns-then-is_err-clause-grows
list-returns-then-is_err-clause-grows t c =
    grows_on _ _ _ _ _ _ c.items.invariant.grown c.expr.ensures.grows

pub list-returns-then-not-sees-clause-gives : goal.list-returns-then-not-sees-clause-gives
list-returns-then-not-sees-clause-gives t c =
    let g = c.items.invariant.listing in
    let r = c.in_ok-item.ensures.gives in
    let shorter : length (drop c.in_ok-item.next c.args.tokens.now) < length (drop c.items.at c.args.tokens.now) = expr_moves c.args.text.now (Some 64) c.args.room (drop c.items.at c.args.tokens.now) r.0 (drop c.in_ok-item.next c.args.tokens.now) r.4 in
    let on : c.items.at < c.in_ok-item.next = omega (arith, shorter, length-drop c.in_ok-item.next c.args.tokens.now, length-drop c.items.at c.args.tokens.now) in
    let le0 : c.args.from ≤ c.items.at = g.from_at in
    let push = pushed c.push.result c.items.found.items c.push.new.self.items (c.items.found.items ++ c.in_ok-item.item ∷ []) c.push.ensures.items (sym c.is_err.ensures.value ∙ c.if-is_err.false) in
    let seen = all_with c.expr.ensures.grows g.acc c.items.found.items c.push.new.self.items c.in_ok-item.item r.0 push g.sees r.1 in
    (g.acc ++ r.0 ∷ [], seen, omega (arith, on, le0), r.3, listing_end c.args.text.now expr_kinds (read_expr c.args.text.now (Some 64) c.args.room) c.args.tokens.now c.args.from g (sym c.may_take.ensures ∙ c.items-test.true) c.in_ok-item.next r.0 on r.3 r.4 (sym c.sees.ensures.value ∙ c.if-not-sees.true))

pub list-returns-then-not-sees-clause-fits : goal.list-returns-then-not-sees-clause-fits
list-returns-then-not-sees-clause-fits t c =
    let g = c.items.invariant.listing in
    let r = c.in_ok-item.ensures.gives in
    let shorter : length (drop c.in_ok-item.next c.args.tokens.now) < length (drop c.items.at c.args.tokens.now) = expr_moves c.args.text.now (Some 64) c.args.room (drop c.items.at c.args.tokens.now) r.0 (drop c.in_ok-item.next c.args.tokens.now) r.4 in
    let on : c.items.at < c.in_ok-item.next = omega (arith, shorter, length-drop c.in_ok-item.next c.args.tokens.now, length-drop c.items.at c.args.tokens.now) in
    let le0 : c.args.from ≤ c.items.at = g.from_at in
    let push = pushed c.push.result c.items.found.items c.push.new.self.items (c.items.found.items ++ c.in_ok-item.item ∷ []) c.push.ensures.items (sym c.is_err.ensures.value ∙ c.if-is_err.false) in
    let seen = all_with c.expr.ensures.grows g.acc c.items.found.items c.push.new.self.items c.in_ok-item.item r.0 push g.sees r.1 in
    record { count = omega (arith, ap length push, length-append c.items.found.items (c.in_ok-item.item ∷ []), on, r.3); each = all_seen c.expr.new.names.keys c.expr.new.nodes.items (length c.expr.new.nodes.items) (trees (g.acc ++ r.0 ∷ [])) c.push.new.self.items seen }

pub list-returns-then-not-sees-clause-grows : goal.list-returns-then-not-sees-clause-grows
list-returns-then-not-sees-clause-grows t c =
    grows_on _ _ _ _ _ _ c.items.invariant.grown c.expr.ensures.grows

pub list-items-preserved : goal.list-items-preserved
list-items-preserved t c =
    let g = c.items.invariant.listing in
    let r = c.in_ok-item.ensures.gives in
    let shorter : length (drop c.in_ok-item.next c.args.tokens.now) < length (drop c.items.at c.args.tokens.now) = expr_moves c.args.text.now (Some 64) c.args.room (drop c.items.at c.args.tokens.now) r.0 (drop c.in_ok-item.next c.args.tokens.now) r.4 in
    let on : c.items.at < c.in_ok-item.next = omega (arith, shorter, length-drop c.in_ok-item.next c.args.tokens.now, length-drop c.items.at c.args.tokens.now) in
    let le0 : c.args.from ≤ c.items.at = g.from_at in
    let push = pushed c.push.result c.items.found.items c.push.new.self.items (c.items.found.items ++ c.in_ok-item.item ∷ []) c.push.ensures.items (sym c.is_err.ensures.value ∙ c.if-is_err.false) in
    let seen = all_with c.expr.ensures.grows g.acc c.items.found.items c.push.new.self.items c.in_ok-item.item r.0 push g.sees r.1 in
    let more = c.in_ok-item.ensures.added in
    let until = c.items.invariant.added in
    record {
      listing = listing_more c.args.text.now expr_kinds (read_expr c.args.text.now (Some 64) c.args.room) c.args.tokens.now c.args.from g (sym c.may_take.ensures ∙ c.items-test.true) (λ ids ts. SeesAll c.expr.new.names.keys c.expr.new.nodes.items (length c.expr.new.nodes.items) ids (trees ts)) c.in_ok-item.next r.0 c.push.new.self.items seen on r.3 r.4 (sym c.sees.ensures.value ∙ c.if-not-sees.false);
      few = omega (arith, ap length push, length-append c.items.found.items (c.in_ok-item.item ∷ []), on);
      grown = grows_on _ _ _ _ _ _ c.items.invariant.grown c.expr.ensures.grows;
      added = (omega (arith, more, until), omega (arith, more, until));
    }

pub list-returns-clause-gives : goal.list-returns-clause-gives
list-returns-clause-gives t c =
    let g = c.items.invariant.listing in
    (g.acc, g.sees, g.from_at, g.at_end, listing_stop c.args.text.now expr_kinds (read_expr c.args.text.now (Some 64) c.args.room) c.args.tokens.now c.args.from g (sym c.may_take.ensures ∙ c.items-test.false))

pub list-returns-clause-fits : goal.list-returns-clause-fits
list-returns-clause-fits t c =
    let g = c.items.invariant.listing in
    let end : c.items.at ≤ length c.args.tokens.now = g.at_end in
    record { count = omega arith; each = all_seen c.items.names.keys c.items.nodes.items (length c.items.nodes.items) (trees g.acc) c.items.found.items g.sees }

pub prim-returns-in_err-node-clause-grows : goal.prim-returns-in_err-node-clause-grows
prim-returns-in_err-node-clause-grows t c =
    grows_kept _ _ _ _ refl c.in_err-node.ensures.err

pub prim-returns-in-Some-clause-gives : goal.prim-returns-in-Some-clause-gives
unfolding read_prim
prim-returns-in-Some-clause-gives t c =
    let l = literal_some c.args.text.now c.args.tokens.now c.args.from c.in_ok-kind.field-0 (c.in-Some.kind, c.in-Some.place) c.in-Some.is c.in_ok-kind.ensures.found in
    let found = last_found c.args.nodes.now.items c.add.new.nodes.items _ c.in_ok-node.node.0 c.in_ok-node.ensures.items c.in_ok-node.ensures.id in
    (l.tree, l.leaf c.args.names.now.keys c.add.new.nodes.items c.in_ok-node.node.0 found, omega arith, omega (arith, l.inside), rw (literal_ahead c.args.text.now (drop c.args.from c.args.tokens.now) (drop (c.args.from + 1) c.args.tokens.now) l.tree l.read, l.read) refl)

pub prim-returns-in-Some-clause-grows : goal.prim-returns-in-Some-clause-grows
prim-returns-in-Some-clause-grows t c =
    let l = literal_some c.args.text.now c.args.tokens.now c.args.from c.in_ok-kind.field-0 (c.in-Some.kind, c.in-Some.place) c.in-Some.is c.in_ok-kind.ensures.found in
    grows_add c.args.names.now.keys c.args.nodes.now.items c.add.new.nodes.items c.in-Some.kind c.in-Some.place c.in_ok-node.ensures.items (l.fits _ _)

pub prim-returns-then-sees-clause-gives : goal.prim-returns-then-sees-clause-gives
unfolding read_prim
prim-returns-then-sees-clause-gives t c =
    let none = literal_none c.args.text.now c.args.tokens.now c.args.from c.in_ok-kind.field-0 c.in_default.is c.in_ok-kind.ensures.found in
    let paren = heads_sign c.args.text.now (mark_kind m.LeftParen) (drop c.args.from c.args.tokens.now) true (omega arith) (sym c.sees.ensures.value ∙ c.if-sees.true) in
    behind (λ (x : ExprId) (a : Tree). Sees c.between.new.names.keys c.between.new.nodes.items x.0 a) c.args.tokens.now c.args.from c.args.from (read_prim c.args.text.now c.args.room (deeper_expr c.args.text.now c.args.room) (deeper_content c.args.text.now c.args.room) (drop c.args.from c.args.tokens.now)) (read_grouped c.args.text.now c.args.room (deeper_expr c.args.text.now c.args.room) (drop c.args.from c.args.tokens.now)) c.between.result (le_refl _) (rw (none, paren) refl) c.between.ensures.gives

pub prim-returns-then-begins_type-clause-gives : goal.prim-returns-then-begins_type-clause-gives
unfolding read_prim
prim-returns-then-begins_type-clause-gives t c =
    let none = literal_none c.args.text.now c.args.tokens.now c.args.from c.in_ok-kind.field-0 c.in_default.is c.in_ok-kind.ensures.found in
    let paren = heads_sign c.args.text.now (mark_kind m.LeftParen) (drop c.args.from c.args.tokens.now) false (omega arith) (sym c.sees.ensures.value ∙ c.if-sees.false) in
    let types = sym c.begins_type.ensures ∙ c.if-begins_type.true in
    behind (λ (x : ExprId) (a : Tree). Sees c.cast.new.names.keys c.cast.new.nodes.items x.0 a) c.args.tokens.now c.args.from c.args.from (read_prim c.args.text.now c.args.room (deeper_expr c.args.text.now c.args.room) (deeper_content c.args.text.now c.args.room) (drop c.args.from c.args.tokens.now)) (read_cast c.args.text.now c.args.room (deeper_expr c.args.text.now c.args.room) (drop c.args.from c.args.tokens.now)) c.cast.result (le_refl _) (rw (none, paren, types) refl) c.cast.ensures.gives

pub prim-returns-in_err-token-clause-gives : goal.prim-returns-in_err-token-clause-gives
unfolding read_prim
prim-returns-in_err-token-clause-gives t c =
    let none = literal_none c.args.text.now c.args.tokens.now c.args.from c.in_ok-kind.field-0 c.in_default.is c.in_ok-kind.ensures.found in
    let paren = heads_sign c.args.text.now (mark_kind m.LeftParen) (drop c.args.from c.args.tokens.now) false (omega arith) (sym c.sees.ensures.value ∙ c.if-sees.false) in
    let types = sym c.begins_type.ensures ∙ c.if-begins_type.false in
    let p = err_from_is_err_and c.from_residual-in_err-token.result c.from_residual-in_err-token.ensures.1 in
    rw (p.1, p.2) (exit (λ (x : Token) (a : List ℕ × Span). (a ≡ (bytes_of c.args.text.now x, x.at)) × (x.start ≤ x.end) × (x.end ≤ length c.args.text.now) × (length (bytes_of c.args.text.now x) ≤ 4096)) (λ (x : ExprId) (a : Tree). Sees c.args.names.now.keys c.args.nodes.now.items x.0 a) c.args.tokens.now c.args.from c.args.from (take_one (name_of c.args.text.now) (drop c.args.from c.args.tokens.now)) _ c.in_err-token.field-0.0 (λ x h. rw (none, paren, types, h) refl) (le_refl _) c.in_err-token.ensures.gives)

pub prim-returns-clause-gives : goal.prim-returns-clause-gives
unfolding read_prim
prim-returns-clause-gives t c =
    let none = literal_none c.args.text.now c.args.tokens.now c.args.from c.in_ok-kind.field-0 c.in_default.is c.in_ok-kind.ensures.found in
    let paren = heads_sign c.args.text.now (mark_kind m.LeftParen) (drop c.args.from c.args.tokens.now) false (omega arith) (sym c.sees.ensures.value ∙ c.if-sees.false) in
    let types = sym c.begins_type.ensures ∙ c.if-begins_type.false in
    let g = c.in_ok-token.ensures.gives in
    behind (λ (x : ExprId) (a : Tree). Sees c.behind_name.new.names.keys c.behind_name.new.nodes.items x.0 a) c.args.tokens.now c.args.from c.in_ok-token.at (read_prim c.args.text.now c.args.room (deeper_expr c.args.text.now c.args.room) (deeper_content c.args.text.now c.args.room) (drop c.args.from c.args.tokens.now)) (read_behind_name c.args.text.now c.args.room (deeper_expr c.args.text.now c.args.room) (deeper_content c.args.text.now c.args.room) (bytes_of c.args.text.now c.in_ok-token.token, c.in_ok-token.token.at) (drop c.in_ok-token.at c.args.tokens.now)) c.behind_name.result g.2 (rw (none, paren, types, g.4) (ap (λ z. read_behind_name c.args.text.now c.args.room (deeper_expr c.args.text.now c.args.room) (deeper_content c.args.text.now c.args.room) z (drop c.in_ok-token.at c.args.tokens.now)) g.1.0)) c.behind_name.ensures.gives

pub scalar-returns-in-Some-clause-gives : goal.scalar-returns-in-Some-clause-gives
scalar-returns-in-Some-clause-gives t c =
    let u = plain_ahead c.args.text.now c.args.room (deeper_expr c.args.text.now c.args.room) c.args.tokens.now c.args.from c.in-Some.base c.requires.within (sym c.plain_type_at.ensures.value ∙ c.in-Some.is) in
    (scalar c.in-Some.base absent u.token.at, (refl, ap (λ (x : Token). x.at) (token_is c.args.tokens.now c.args.from _ u.token _ u.here), refl, plain_fits _ c.in-Some.base _ u.bool), omega arith, u.inside, u.same)

pub scalar-returns-in_default-sized_type_at-clause-gives : goal.scalar-returns-in_default-sized_type_at-clause-gives
scalar-returns-in_default-sized_type_at-clause-gives t c =
    (le_refl _, c.requires.within, no_type c.args.text.now c.args.room (deeper_expr c.args.text.now c.args.room) c.args.tokens.now c.args.from (sym c.plain_type_at.ensures.value ∙ c.in_default.is) (sym c.sized_type_at.ensures.value ∙ c.in_default-sized_type_at.is))

pub scalar-returns-then-not-sees-clause-gives : goal.scalar-returns-then-not-sees-clause-gives
scalar-returns-then-not-sees-clause-gives t c =
    let u = wide_ahead c.args.text.now c.args.room (deeper_expr c.args.text.now c.args.room) c.args.tokens.now c.args.from (sym c.plain_type_at.ensures.value ∙ c.in_default.is) c.in-Some-sized_type_at.base c.requires.within (sym c.sized_type_at.ensures.value ∙ c.in-Some-sized_type_at.is) in
    let bracket = heads_sign c.args.text.now (mark_kind m.LeftBracket) (drop (c.args.from + 1) c.args.tokens.now) false (omega arith) (sym c.sees.ensures.value ∙ c.if-not-sees.true) in
    (scalar c.in-Some-sized_type_at.base absent u.token.at, (refl, ap (λ (x : Token). x.at) (token_is c.args.tokens.now c.args.from _ u.token _ u.here), refl, sized_fits _ c.in-Some-sized_type_at.base None _ u.sized tt), omega arith, u.inside, u.same ∙ rw bracket refl)

pub scalar-returns-in_err-width-clause-gives : goal.scalar-returns-in_err-width-clause-gives
scalar-returns-in_err-width-clause-gives t c =
    let u = wide_ahead c.args.text.now c.args.room (deeper_expr c.args.text.now c.args.room) c.args.tokens.now c.args.from (sym c.plain_type_at.ensures.value ∙ c.in_default.is) c.in-Some-sized_type_at.base c.requires.within (sym c.sized_type_at.ensures.value ∙ c.in-Some-sized_type_at.is) in
    let bracket = heads_sign c.args.text.now (mark_kind m.LeftBracket) (drop (c.args.from + 1) c.args.tokens.now) true (omega arith) (sym c.sees.ensures.value ∙ c.if-not-sees.false) in
    let p = err_from_is_err_and c.from_residual.result c.from_residual.ensures.1 in
    rw (p.1, p.2) (exit (λ (x : ExprId) (a : Tree). Sees c.between.new.names.keys c.between.new.nodes.items x.0 a) (SeesScalar c.between.new.names.keys c.between.new.nodes.items) c.args.tokens.now c.args.from (c.args.from + 1) (read_width c.args.text.now c.args.room (deeper_expr c.args.text.now c.args.room) (drop (c.args.from + 1) c.args.tokens.now)) _ c.in_err-width.field-0.0 (λ x h. u.same ∙ rw (bracket, h) refl) (omega arith) c.in_err-width.ensures.gives)

pub scalar-returns-clause-gives : goal.scalar-returns-clause-gives
scalar-returns-clause-gives t c =
    let u = wide_ahead c.args.text.now c.args.room (deeper_expr c.args.text.now c.args.room) c.args.tokens.now c.args.from (sym c.plain_type_at.ensures.value ∙ c.in_default.is) c.in-Some-sized_type_at.base c.requires.within (sym c.sized_type_at.ensures.value ∙ c.in-Some-sized_type_at.is) in
    let bracket = heads_sign c.args.text.now (mark_kind m.LeftBracket) (drop (c.args.from + 1) c.args.tokens.now) true (omega arith) (sym c.sees.ensures.value ∙ c.if-not-sees.false) in
    let r = c.in_ok-width.ensures.gives in
    let below = sees_below c.between.new.names.keys c.between.new.nodes.items r.0 c.in_ok-width.width.0 r.1 in
    (scalar c.in-Some-sized_type_at.base (present r.0) u.token.at, (refl, ap (λ (x : Token). x.at) (token_is c.args.tokens.now c.args.from _ u.token _ u.here), (_, refl, below, r.1), sized_fits _ c.in-Some-sized_type_at.base (Some c.in_ok-width.width) _ u.sized below), omega (arith, r.2), r.3, u.same ∙ rw (bracket, r.4) refl)
