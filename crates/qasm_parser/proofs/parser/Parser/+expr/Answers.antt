use Rattle.std.proofs.Common.{rules, ◌≡◌, ◌+◌, ◌≤◌, ◌<◌, ◌∷◌, ◌++◌, [], true, false, ◌||◌, Some, None, Ok, length, refl, sym, ap, ◌∙◌, length-append, le_refl, arith}
use Rattle.qasm_lexer.specs.declared.token.Token.{Token}
use Rattle.qasm_lexer.specs.declared.token.Mark.TheVariants as m
use Rattle.qasm_ast.specs.declared.expr.BinaryOp.TheVariants as op
use Rattle.qasm_ast.specs.Tree.{Bracket, word, unary as unary_tree, binary as binary_tree, cast as cast_tree, call, named, place_of, maybe_at, absent, present, position, range, members, trees, brackets}
use Rattle.grammar_parts.specs.Reading.{Outcome, Reader, heads, and_then, done, take_one}
use Rattle.grammar_parts.specs.Kinds.{kinds_of}
use Rattle.qasm_expr.specs.TokenKinds.{mark_kind}
use Rattle.qasm_expr.specs.Grammar.{Counted, scalar, literal_of}
use Rattle.qasm_expr.specs.Reader.{begins, expr_kinds, read_between, read_cast, read_type, read_list, read_behind_colon, read_behind_start, read_set, read_content, read_behind_name, read_prim, read_level, read_binary, read_unary, read_expr}
use Rattle.qasm_expr.specs.Seen.{tighter, rows_at}
use Rattle.qasm_parser.specs.State.{After, tree}
use Rattle.qasm_parser.specs.Shows.{Each, IsTree, IsCounted, IsBracket}
use Rattle.qasm_parser.proofs.Growing.{after_same, after_on, past, fewer, spend, has_room}
use Rattle.qasm_parser.proofs.Showing.{shorter, tree_later, tree_now, maybe_later, bracket_later, word_later, scalar_later, trees_later, each_on, each_none, each_more, trees_whole, brackets_whole}
use Rattle.qasm_parser.proofs.Nodes.{unary_lasts, binary_lasts, cast_lasts, call_lasts, named_lasts, scalar_lasts, none_is, some_is, maybe_now, maybe_own, position_is, members_is, range_is}
use Rattle.qasm_parser.proofs.Reading.{deeper_expr_is, deeper_unary_is, deeper_content_is, signed, unsigned, level_is}
use Rattle.qasm_parser.proofs.Exits.{handed, no_memory, behind, noded, spared, instead, pushed}
use Rattle.qasm_parser.proofs.Chains.{read_operator, going_start, going_end, going_no_operator, going_err, going_step}
use Rattle.qasm_parser.proofs.Repeating.{repeating_start, repeating_stop, repeating_err, repeating_more}
use Rattle.qasm_parser.proofs.Listing.{listing_start, listing_stop, listing_err, listing_end, listing_more}
use Rattle.qasm_parser.proofs.Types.{plain_fits, sized_fits}
use Rattle.qasm_parser.proofs.parser.Parser.+expr.Goals as goal

-- ---- an expression

pub expr-returns-in_err-found : goal.expr-returns-in_err-found
expr-returns-in_err-found t c = handed _ _ _ _ _ _ c.from_residual.ensures c.in_err-found.ensures.longer (λ no. ap (λ (o : Outcome Token Counted). and_then o (λ e. done e.0)) (c.in_err-found.ensures.read no))

pub expr-returns : goal.expr-returns
expr-returns t c =
    let b = c.in_ok-found.ensures in
    record { value = b.value.0; shown = b.shown.0; read = ap (λ (o : Outcome Token Counted). and_then o (λ e. done e.0)) b.read; after = b.after }

-- ---- between two marks

pub between-returns-in_err-inner : goal.between-returns-in_err-inner
unfolding read_between
between-returns-in_err-inner t c = handed _ _ _ _ _ _ c.from_residual.ensures c.in_err-inner.ensures.longer (λ no. rw (c.in_err-inner.ensures.read no) refl)

pub between-returns-in_err-found : goal.between-returns-in_err-found
unfolding read_between
between-returns-in_err-found t c =
    let o = c.in_ok-inner.ensures in
    let deeper = ap (λ r. r c.enter.new.self.left) (deeper_expr_is c.args.self.now.text _ _ o.shown) in
    handed _ _ _ _ _ _ c.from_residual-in_err-found.ensures (past o.after c.in_err-found.ensures.longer) (λ no. rw (o.read, deeper, sym o.after.text, c.in_err-found.ensures.read no) refl)

pub between-returns-in_err-mark : goal.between-returns-in_err-mark
unfolding read_between
between-returns-in_err-mark t c =
    let o = c.in_ok-inner.ensures in
    let deeper = ap (λ r. r c.enter.new.self.left) (deeper_expr_is c.args.self.now.text _ _ o.shown) in
    let x = c.in_ok-found.ensures in
    handed _ _ _ _ _ _ c.from_residual-in_err-mark.ensures (past (after_on o.after x.after) c.in_err-mark.ensures.longer) (λ no. rw (o.read, deeper, sym o.after.text, x.read, sym x.after.text, c.in_err-mark.ensures.read no) refl)

pub between-returns : goal.between-returns
unfolding read_between
between-returns t c =
    let o = c.in_ok-inner.ensures in
    let deeper = ap (λ r. r c.enter.new.self.left) (deeper_expr_is c.args.self.now.text _ _ o.shown) in
    let x = c.in_ok-found.ensures in
    let s = c.in_ok-mark.ensures in
    record {
      value = x.value;
      shown = tree_later s.after _ _ x.shown;
      read = rw (o.read, deeper, sym o.after.text, x.read, sym x.after.text, s.read) refl;
      after = fewer 2 1 (omega arith) (after_on o.after (after_on x.after s.after));
    }

-- ---- types and casts

pub cast-returns-in_err-ty : goal.cast-returns-in_err-ty
unfolding read_cast
cast-returns-in_err-ty t c = handed _ _ _ _ _ _ c.from_residual.ensures c.in_err-ty.ensures.longer (λ no. rw (c.in_err-ty.ensures.read no) refl)

pub cast-returns-in_err-operand : goal.cast-returns-in_err-operand
unfolding read_cast
cast-returns-in_err-operand t c =
    let y = c.in_ok-ty.ensures in
    handed _ _ _ _ _ _ c.from_residual-in_err-operand.ensures (past y.after c.in_err-operand.ensures.longer) (λ no. rw (y.read, sym y.after.text, c.in_err-operand.ensures.read no) refl)

pub cast-node-requires : goal.cast-node-requires
cast-node-requires t c =
    let y = c.in_ok-ty.ensures in
    let o = c.in_ok-operand.ensures in
    record { room = has_room (fewer 2 1 (omega arith) (after_on y.after o.after)); fits = λ names le. ((scalar_later o.after _ _ y.shown).0 _ (le_refl _), o.shown.0) }

pub cast-returns : goal.cast-returns
unfolding read_cast
cast-returns t c =
    let y = c.in_ok-ty.ensures in
    let o = c.in_ok-operand.ensures in
    noded _ _ _ _ _ _ c.node.result (cast_tree y.value.base y.value.width y.value.place o.value y.value.place) (fewer 2 1 (omega arith) (after_on y.after o.after))
    (rw (y.read, sym y.after.text, o.read) refl)
    (cast_lasts _ _ _ _ _ (scalar_later o.after _ _ y.shown) o.shown)
    c.node.ensures

pub scalar-returns-in_err-plain : goal.scalar-returns-in_err-plain
unfolding read_type
scalar-returns-in_err-plain t c = handed _ _ _ _ _ _ c.from_residual.ensures c.in_err-plain.ensures.longer (λ no. rw (sym c.begins_plain_type.ensures ∙ c.if-begins_plain_type.true, c.in_err-plain.ensures.read no) refl)

pub scalar-returns-then-begins_plain_type : goal.scalar-returns-then-begins_plain_type
unfolding read_type
scalar-returns-then-begins_plain_type t c =
    let p = c.in_ok-plain.ensures in
    record {
      value = scalar p.value.0 absent p.value.1.at;
      shown = (λ n le. plain_fits n _ _ p.shown.2, scalar_lasts _ _ _ None absent _ _ p.shown.0 p.shown.1 (none_is _).1);
      read = rw (sym c.begins_plain_type.ensures ∙ c.if-begins_plain_type.true, p.read) refl;
      after = p.after;
    }

pub scalar-returns-in_err-base : goal.scalar-returns-in_err-base
unfolding read_type
scalar-returns-in_err-base t c = handed _ _ _ _ _ _ c.from_residual-in_err-base.ensures c.in_err-base.ensures.longer (λ no. rw (sym c.begins_plain_type.ensures ∙ c.if-begins_plain_type.false, c.in_err-base.ensures.read no) refl)

pub scalar-returns-then-not-sees : goal.scalar-returns-then-not-sees
unfolding read_type
scalar-returns-then-not-sees t c =
    let z = c.in_ok-base.ensures in
    record {
      value = scalar z.value.0 absent z.value.1.at;
      shown = (λ n le. sized_fits n _ None _ z.shown.2 tt, scalar_lasts _ _ _ None absent _ _ z.shown.0 z.shown.1 (none_is _).1);
      read = rw (sym c.begins_plain_type.ensures ∙ c.if-begins_plain_type.false, z.read, sym z.after.text, sym c.sees.ensures ∙ c.if-not-sees.true) refl;
      after = z.after;
    }

pub scalar-returns-in_err-width : goal.scalar-returns-in_err-width
unfolding read_type
scalar-returns-in_err-width t c =
    let z = c.in_ok-base.ensures in
    handed _ _ _ _ _ _ c.from_residual-in_err-width.ensures (past z.after c.in_err-width.ensures.longer) (λ no. rw (sym c.begins_plain_type.ensures ∙ c.if-begins_plain_type.false, z.read, sym z.after.text, sym c.sees.ensures ∙ c.if-not-sees.false, c.in_err-width.ensures.read no) refl)

pub scalar-returns : goal.scalar-returns
unfolding read_type
scalar-returns t c =
    let z = c.in_ok-base.ensures in
    let w = c.in_ok-width.ensures in
    record {
      value = scalar z.value.0 (present w.value) z.value.1.at;
      shown = (λ n le. sized_fits n _ (Some c.in_ok-width.width) _ z.shown.2 ((some_is _ _ _ w.shown).0 n le), scalar_lasts _ _ _ (Some c.in_ok-width.width) (present w.value) _ _ z.shown.0 z.shown.1 (some_is _ _ _ w.shown).1);
      read = rw (sym c.begins_plain_type.ensures ∙ c.if-begins_plain_type.false, z.read, sym z.after.text, sym c.sees.ensures ∙ c.if-not-sees.false, w.read) refl;
      after = fewer 2 1 (omega arith) (after_on z.after w.after);
    }

-- ---- names

pub named-returns-in_err-called : goal.named-returns-in_err-called
named-returns-in_err-called t c = handed _ _ _ _ _ _ c.from_residual.ensures c.in_err-called.ensures.longer (λ no. rw (c.in_err-called.ensures.read no) refl)

pub named-returns-in_err-inner : goal.named-returns-in_err-inner
unfolding read_behind_name read_between
named-returns-in_err-inner t c =
    let n = c.in_ok-called.ensures in
    handed _ _ _ _ _ _ c.from_residual-in_err-inner.ensures (past n.after c.in_err-inner.ensures.longer) (λ no. rw (n.read, sym n.after.text, sym c.sees.ensures ∙ c.if-sees.true, c.in_err-inner.ensures.read no) refl)

pub named-returns-in_err-args : goal.named-returns-in_err-args
unfolding read_behind_name read_between
named-returns-in_err-args t c =
    let n = c.in_ok-called.ensures in
    let o = c.in_ok-inner.ensures in
    let deeper = ap (λ r. read_list c.name.new.self.text false r c.enter.new.self.left) (deeper_expr_is c.name.new.self.text _ _ o.shown) in
    handed _ _ _ _ _ _ c.from_residual-in_err-args.ensures (past (after_on n.after o.after) c.in_err-args.ensures.longer) (λ no. rw (n.read, sym n.after.text, sym c.sees.ensures ∙ c.if-sees.true, o.read, deeper, sym o.after.text, c.in_err-args.ensures.read no) refl)

pub named-returns-in_err-mark : goal.named-returns-in_err-mark
unfolding read_behind_name read_between
named-returns-in_err-mark t c =
    let n = c.in_ok-called.ensures in
    let o = c.in_ok-inner.ensures in
    let deeper = ap (λ r. read_list c.name.new.self.text false r c.enter.new.self.left) (deeper_expr_is c.name.new.self.text _ _ o.shown) in
    let l = c.in_ok-args.ensures in
    handed _ _ _ _ _ _ c.from_residual-in_err-mark.ensures (past (after_on n.after (after_on o.after l.after)) c.in_err-mark.ensures.longer) (λ no. rw (n.read, sym n.after.text, sym c.sees.ensures ∙ c.if-sees.true, o.read, deeper, sym o.after.text, l.read, sym l.after.text, c.in_err-mark.ensures.read no) refl)

pub named-node-requires : goal.named-node-requires
named-node-requires t c =
    let n = c.in_ok-called.ensures in
    let o = c.in_ok-inner.ensures in
    let l = c.in_ok-args.ensures in
    let s = c.in_ok-mark.ensures in
    let on = after_on o.after (after_on l.after s.after) in
    record { room = has_room (fewer 3 1 (omega arith) (after_on n.after on)); fits = λ names le. (omega (arith, (word_later on _ _ n.shown).0, le), (trees_later s.after _ _ l.shown).0 _ (le_refl _)) }

pub named-returns-then-sees : goal.named-returns-then-sees
unfolding read_behind_name read_between
named-returns-then-sees t c =
    let n = c.in_ok-called.ensures in
    let o = c.in_ok-inner.ensures in
    let deeper = ap (λ r. read_list c.name.new.self.text false r c.enter.new.self.left) (deeper_expr_is c.name.new.self.text _ _ o.shown) in
    let l = c.in_ok-args.ensures in
    let s = c.in_ok-mark.ensures in
    let on = after_on o.after (after_on l.after s.after) in
    noded _ _ _ _ _ _ c.node.result (call n.value.0 (trees l.value) n.value.1) (fewer 3 1 (omega arith) (after_on n.after on))
    (rw (n.read, sym n.after.text, sym c.sees.ensures ∙ c.if-sees.true, o.read, deeper, sym o.after.text, l.read, sym l.after.text, s.read) refl)
    (call_lasts _ _ _ _ _ (word_later on _ _ n.shown) (trees_later s.after _ _ l.shown))
    c.node.ensures

pub named-returns-in_err-index : goal.named-returns-in_err-index
unfolding read_behind_name
named-returns-in_err-index t c =
    let n = c.in_ok-called.ensures in
    handed _ _ _ _ _ _ c.from_residual-in_err-index.ensures (past n.after c.in_err-index.ensures.longer) (λ no. rw (n.read, sym n.after.text, sym c.sees.ensures ∙ c.if-sees.false, c.in_err-index.ensures.read no) refl)

pub named-node-requires-2 : goal.named-node-requires-2
named-node-requires-2 t c =
    let n = c.in_ok-called.ensures in
    let i = c.in_ok-index.ensures in
    record { room = has_room (after_on n.after i.after); fits = λ names le. (let there : c.in_ok-called.called.name < names = omega (arith, (word_later i.after _ _ n.shown).0, le) in record { name = there; index = i.shown.0 _ (le_refl _) }) }

pub named-returns : goal.named-returns
unfolding read_behind_name
named-returns t c =
    let n = c.in_ok-called.ensures in
    let i = c.in_ok-index.ensures in
    noded _ _ _ _ _ _ c.node-2.result (named (word n.value.0) (brackets i.value) n.value.1 n.value.1) (after_on n.after i.after)
    (rw (n.read, sym n.after.text, sym c.sees.ensures ∙ c.if-sees.false, i.read) refl)
    (named_lasts _ _ _ _ _ (word_later i.after _ _ n.shown) i.shown)
    c.node-2.ensures

-- ---- index brackets

pub indexes-brackets-init : goal.indexes-brackets-init
indexes-brackets-init t c =
    record {
      repeating = repeating_start _ _ _ _ _ _ (each_none _ _ c.new-found.ensures.items);
      count = omega (arith, ap length c.new-found.ensures.items);
      after = after_same _;
    }

pub indexes-returns-in_err-inner : goal.indexes-returns-in_err-inner
unfolding read_between
indexes-returns-in_err-inner t c =
    let at' = c.brackets.invariant.after.text in
    let seen : heads (begins c.args.self.now.text (mark_kind m.LeftBracket ∷ [])) c.brackets.self.left ≡ true = rw (sym at') (sym c.sees.ensures ∙ c.brackets-test.true) in
    handed _ _ _ _ _ _ c.from_residual.ensures (past c.brackets.invariant.after c.in_err-inner.ensures.longer) (λ no. repeating_err _ _ _ c.brackets.invariant.repeating seen _ (rw (sym at', c.in_err-inner.ensures.read no) refl))

pub indexes-returns-in_err-index : goal.indexes-returns-in_err-index
unfolding read_between
indexes-returns-in_err-index t c =
    let at' = c.brackets.invariant.after.text in
    let seen : heads (begins c.args.self.now.text (mark_kind m.LeftBracket ∷ [])) c.brackets.self.left ≡ true = rw (sym at') (sym c.sees.ensures ∙ c.brackets-test.true) in
    let o = c.in_ok-inner.ensures in
    let deeper = ap (λ r. r c.enter.new.self.left) (deeper_content_is c.brackets.self.text _ _ o.shown) in
    handed _ _ _ _ _ _ c.from_residual-in_err-index.ensures (past (after_on c.brackets.invariant.after o.after) c.in_err-index.ensures.longer) (λ no. repeating_err _ _ _ c.brackets.invariant.repeating seen _ (rw (sym at', o.read, deeper, sym o.after.text, c.in_err-index.ensures.read no) refl))

pub indexes-returns-in_err-mark : goal.indexes-returns-in_err-mark
unfolding read_between
indexes-returns-in_err-mark t c =
    let at' = c.brackets.invariant.after.text in
    let seen : heads (begins c.args.self.now.text (mark_kind m.LeftBracket ∷ [])) c.brackets.self.left ≡ true = rw (sym at') (sym c.sees.ensures ∙ c.brackets-test.true) in
    let o = c.in_ok-inner.ensures in
    let deeper = ap (λ r. r c.enter.new.self.left) (deeper_content_is c.brackets.self.text _ _ o.shown) in
    let x = c.in_ok-index.ensures in
    handed _ _ _ _ _ _ c.from_residual-in_err-mark.ensures (past (after_on c.brackets.invariant.after (after_on o.after x.after)) c.in_err-mark.ensures.longer) (λ no. repeating_err _ _ _ c.brackets.invariant.repeating seen _ (rw (sym at', o.read, deeper, sym o.after.text, x.read, sym x.after.text, c.in_err-mark.ensures.read no) refl))

pub indexes-brackets-smaller : goal.indexes-brackets-smaller
indexes-brackets-smaller t c =
    let o = c.in_ok-inner.ensures in
    let x = c.in_ok-index.ensures in
    let s = c.in_ok-mark.ensures in
    omega (arith, shorter (after_on o.after (after_on x.after s.after)))

pub indexes-brackets-preserved : goal.indexes-brackets-preserved
unfolding read_between
indexes-brackets-preserved t c =
    let at' = c.brackets.invariant.after.text in
    let seen : heads (begins c.args.self.now.text (mark_kind m.LeftBracket ∷ [])) c.brackets.self.left ≡ true = rw (sym at') (sym c.sees.ensures ∙ c.brackets-test.true) in
    let o = c.in_ok-inner.ensures in
    let deeper = ap (λ r. r c.enter.new.self.left) (deeper_content_is c.brackets.self.text _ _ o.shown) in
    let x = c.in_ok-index.ensures in
    let s = c.in_ok-mark.ensures in
    let on : After 2 0 c.brackets.self c.mark.new.self = after_on o.after (after_on x.after s.after) in
    let fewer_left : length c.mark.new.self.left + 2 ≤ length c.brackets.self.left = omega (arith, shorter on) in
    let push = pushed c.push.result c.brackets.found.items c.push.new.self.items (c.brackets.found.items ++ c.in_ok-index.index ∷ []) c.push.ensures.items (sym c.is_err.ensures.value ∙ c.if-is_err.false) in
    let size : length c.push.new.self.items ≡ length c.brackets.found.items + 1 = ap length push ∙ length-append c.brackets.found.items (c.in_ok-index.index ∷ []) in
    let count = c.brackets.invariant.count in
    let g = c.brackets.invariant.repeating in
    let seen_all = each_more (IsBracket c.brackets.self) (IsBracket c.mark.new.self) (bracket_later on) c.brackets.found.items c.push.new.self.items g.acc c.in_ok-index.index x.value push g.sees (bracket_later s.after _ _ x.shown) in
    record {
      repeating = repeating_more _ _ _ g seen (Each (IsBracket c.mark.new.self)) c.mark.new.self.left x.value c.push.new.self.items seen_all (omega (arith, fewer_left)) (rw (sym at', o.read, deeper, sym o.after.text, x.read, sym x.after.text, s.read) refl);
      count = omega (arith, size, fewer_left, count);
      after = after_on c.brackets.invariant.after (fewer 2 0 (omega arith) on);
    }

pub indexes-returns-then-is_err : goal.indexes-returns-then-is_err
indexes-returns-then-is_err t c =
    let on = after_on c.in_ok-inner.ensures.after (after_on c.in_ok-index.ensures.after c.in_ok-mark.ensures.after) in
    record { longer = (after_on c.brackets.invariant.after on).longer; read = λ no. absurd (no refl) }

pub indexes-returns : goal.indexes-returns
indexes-returns t c =
    let at' = c.brackets.invariant.after.text in
    let none : heads (begins c.args.self.now.text (mark_kind m.LeftBracket ∷ [])) c.brackets.self.left ≡ false = rw (sym at') (sym c.sees.ensures ∙ c.brackets-test.false) in
    let g = c.brackets.invariant.repeating in
    let count = c.brackets.invariant.count in
    record {
      value = g.acc;
      shown = brackets_whole c.brackets.self c.brackets.found.items g.acc (omega (arith, count, c.alloc.ensures)) g.sees;
      read = repeating_stop _ _ _ g none;
      after = c.brackets.invariant.after;
    }

-- ---- what stands between the brackets of an index

pub content-returns-in_err-inner : goal.content-returns-in_err-inner
unfolding read_content read_set
content-returns-in_err-inner t c = handed _ _ _ _ _ _ c.from_residual.ensures c.in_err-inner.ensures.longer (λ no. rw (sym c.sees.ensures ∙ c.if-sees.true, c.in_err-inner.ensures.read no) refl)

pub content-returns-in_err-members : goal.content-returns-in_err-members
unfolding read_content read_set
content-returns-in_err-members t c =
    let o = c.in_ok-inner.ensures in
    let deeper = ap (λ r. read_list c.args.self.now.text true r c.enter.new.self.left) (deeper_expr_is c.args.self.now.text _ _ o.shown) in
    handed _ _ _ _ _ _ c.from_residual-in_err-members.ensures (past o.after c.in_err-members.ensures.longer) (λ no. rw (sym c.sees.ensures ∙ c.if-sees.true, o.read, deeper, sym o.after.text, c.in_err-members.ensures.read no) refl)

pub content-returns-in_err-mark : goal.content-returns-in_err-mark
unfolding read_content read_set
content-returns-in_err-mark t c =
    let o = c.in_ok-inner.ensures in
    let deeper = ap (λ r. read_list c.args.self.now.text true r c.enter.new.self.left) (deeper_expr_is c.args.self.now.text _ _ o.shown) in
    let l = c.in_ok-members.ensures in
    handed _ _ _ _ _ _ c.from_residual-in_err-mark.ensures (past (after_on o.after l.after) c.in_err-mark.ensures.longer) (λ no. rw (sym c.sees.ensures ∙ c.if-sees.true, o.read, deeper, sym o.after.text, l.read, sym l.after.text, c.in_err-mark.ensures.read no) refl)

pub content-returns-then-sees : goal.content-returns-then-sees
unfolding read_content read_set
content-returns-then-sees t c =
    let o = c.in_ok-inner.ensures in
    let deeper = ap (λ r. read_list c.args.self.now.text true r c.enter.new.self.left) (deeper_expr_is c.args.self.now.text _ _ o.shown) in
    let l = c.in_ok-members.ensures in
    let s = c.in_ok-mark.ensures in
    record {
      value = members (trees l.value);
      shown = members_is _ _ _ (trees_later s.after _ _ l.shown);
      read = rw (sym c.sees.ensures ∙ c.if-sees.true, o.read, deeper, sym o.after.text, l.read, sym l.after.text, s.read) refl;
      after = fewer 2 0 (omega arith) (after_on o.after (after_on l.after s.after));
    }

pub content-returns-in_err-at : goal.content-returns-in_err-at
unfolding read_content
content-returns-in_err-at t c = handed _ _ _ _ _ _ c.from_residual-in_err-at.ensures c.in_err-at.ensures.longer (λ no. rw (sym c.sees.ensures ∙ c.if-sees.false, sym c.sees-2.ensures ∙ c.if-sees-2.true, c.in_err-at.ensures.read no) refl)

pub content-returns-then-sees-2 : goal.content-returns-then-sees-2
unfolding read_content
content-returns-then-sees-2 t c =
    let s = c.in_ok-at.ensures in
    behind _ _ _ _ IsBracket _ _ c.behind_colon.result (fewer 1 0 (omega arith) s.after) (rw (sym c.sees.ensures ∙ c.if-sees.false, sym c.sees-2.ensures ∙ c.if-sees-2.true, s.read, sym s.after.text, s.shown) refl) c.behind_colon.ensures

pub content-returns-in_err-start : goal.content-returns-in_err-start
unfolding read_content
content-returns-in_err-start t c = handed _ _ _ _ _ _ c.from_residual-in_err-start.ensures c.in_err-start.ensures.longer (λ no. rw (sym c.sees.ensures ∙ c.if-sees.false, sym c.sees-2.ensures ∙ c.if-sees-2.false, c.in_err-start.ensures.read no) refl)

pub content-returns-then-not-eat : goal.content-returns-then-not-eat
unfolding read_content read_behind_start
content-returns-then-not-eat t c =
    let x = c.in_ok-start.ensures in
    let e = c.if-not-eat.ensures in
    rw e.1 (record {
      value = position x.value;
      shown = position_is _ _ _ x.shown;
      read = rw (sym c.sees.ensures ∙ c.if-sees.false, sym c.sees-2.ensures ∙ c.if-sees-2.false, x.read, sym x.after.text, e.0) refl;
      after = x.after;
    })

pub content-place-at-requires : goal.content-place-at-requires
content-place-at-requires t c = (tree_later c.if-not-eat.ensures.after _ _ c.in_ok-start.ensures.shown).0

pub content-behind_colon-requires-2 : goal.content-behind_colon-requires-2
content-behind_colon-requires-2 t c =
    (search rules, maybe_own _ (Some c.in_ok-start.start) _ (some_is _ _ _ (tree_later c.if-not-eat.ensures.after _ _ c.in_ok-start.ensures.shown)))

pub content-returns : goal.content-returns
unfolding read_content read_behind_start
content-returns t c =
    let x = c.in_ok-start.ensures in
    let e = c.if-not-eat.ensures in
    let k = tree_later e.after _ _ x.shown in
    let part : Reader Token Bracket = read_behind_colon c.eat.new.self.text (read_expr c.eat.new.self.text (Some 64) c.args.room) (maybe_at (tree c.eat.new.self) (Some c.in_ok-start.start)) c.place-at.result in
    behind _ _ _ _ IsBracket _ part c.behind_colon-2.result (fewer 1 0 (omega arith) (after_on x.after e.after))
    (rw (sym c.sees.ensures ∙ c.if-sees.false, sym c.sees-2.ensures ∙ c.if-sees-2.false, x.read, sym x.after.text, e.seen, e.read, sym e.after.text, c.place-at.ensures, tree_now _ _ _ k) refl)
    c.behind_colon-2.ensures

pub behind_colon-returns-then-sees : goal.behind_colon-returns-then-sees
unfolding read_behind_colon
behind_colon-returns-then-sees t c = instead 0 _ _ IsBracket _ _ c.range_end.result (rw (sym c.sees.ensures ∙ c.if-sees.true) refl) c.range_end.ensures

pub behind_colon-returns-then-not-begins_expr : goal.behind_colon-returns-then-not-begins_expr
unfolding read_behind_colon
behind_colon-returns-then-not-begins_expr t c =
    record {
      value = range (maybe_at (tree c.args.self.now) c.args.start) absent absent c.args.at;
      shown = range_is _ _ None None _ _ _ _ c.requires (none_is _) (none_is _);
      read = rw (sym c.sees.ensures ∙ c.if-sees.false, sym c.begins_expr.ensures ∙ c.if-not-begins_expr.true) refl;
      after = after_same _;
    }

pub behind_colon-returns-in_err-middle : goal.behind_colon-returns-in_err-middle
unfolding read_behind_colon
behind_colon-returns-in_err-middle t c = handed _ _ _ _ _ _ c.from_residual.ensures c.in_err-middle.ensures.longer (λ no. rw (sym c.sees.ensures ∙ c.if-sees.false, sym c.begins_expr.ensures ∙ c.if-not-begins_expr.false, c.in_err-middle.ensures.read no) refl)

pub behind_colon-range_end-requires-then-sees-2 : goal.behind_colon-range_end-requires-then-sees-2
behind_colon-range_end-requires-then-sees-2 t c =
    let x = c.in_ok-middle.ensures in
    (search rules, (maybe_own _ _ _ (maybe_later x.after _ _ c.requires), maybe_own _ (Some c.in_ok-middle.middle) _ (some_is _ _ _ x.shown)))

pub behind_colon-returns-then-sees-2 : goal.behind_colon-returns-then-sees-2
unfolding read_behind_colon
behind_colon-returns-then-sees-2 t c =
    let x = c.in_ok-middle.ensures in
    behind _ _ _ _ IsBracket _ _ c.range_end-then-sees-2.result x.after
    (rw (sym c.sees.ensures ∙ c.if-sees.false, sym c.begins_expr.ensures ∙ c.if-not-begins_expr.false, x.read, sym x.after.text, sym c.sees-2.ensures ∙ c.if-sees-2.true, maybe_now _ _ _ (maybe_later x.after _ _ c.requires), tree_now _ _ _ x.shown) refl)
    c.range_end-then-sees-2.ensures

pub behind_colon-returns : goal.behind_colon-returns
unfolding read_behind_colon
behind_colon-returns t c =
    let x = c.in_ok-middle.ensures in
    record {
      value = range (maybe_at (tree c.args.self.now) c.args.start) absent (present x.value) c.args.at;
      shown = range_is _ _ None (Some c.in_ok-middle.middle) _ _ _ _ (maybe_later x.after _ _ c.requires) (none_is _) (some_is _ _ _ x.shown);
      read = rw (sym c.sees.ensures ∙ c.if-sees.false, sym c.begins_expr.ensures ∙ c.if-not-begins_expr.false, x.read, sym x.after.text, sym c.sees-2.ensures ∙ c.if-sees-2.false) refl;
      after = x.after;
    }

pub range_end-returns-in_err-mark : goal.range_end-returns-in_err-mark
range_end-returns-in_err-mark t c = handed _ _ _ _ _ _ c.from_residual.ensures c.in_err-mark.ensures.longer (λ no. rw (c.in_err-mark.ensures.read no) refl)

pub range_end-returns-in_err-stop : goal.range_end-returns-in_err-stop
range_end-returns-in_err-stop t c =
    let s = c.in_ok-mark.ensures in
    handed _ _ _ _ _ _ c.from_residual-in_err-stop.ensures (past s.after c.in_err-stop.ensures.longer) (λ no. rw (s.read, sym s.after.text, c.in_err-stop.ensures.read no) refl)

pub range_end-returns : goal.range_end-returns
range_end-returns t c =
    let s = c.in_ok-mark.ensures in
    let x = c.in_ok-stop.ensures in
    let on : After 1 0 c.args.self.now c.expr.new.self = after_on s.after x.after in
    record {
      value = range (maybe_at (tree c.args.self.now) c.args.start) (maybe_at (tree c.args.self.now) c.args.step) (present x.value) c.args.at;
      shown = range_is _ _ _ (Some c.in_ok-stop.stop) _ _ _ _ (maybe_later on _ _ c.requires.start) (maybe_later on _ _ c.requires.step) (some_is _ _ _ x.shown);
      read = rw (s.read, sym s.after.text, x.read) refl;
      after = fewer 1 0 (omega arith) on;
    }

-- ---- lists

pub list-items-init : goal.list-items-init
unfolding read_list
list-items-init t c =
    record {
      listing = listing_start _ _ _ _ _ _ _ (each_none _ _ c.new-found.ensures.items);
      count = omega (arith, ap length c.new-found.ensures.items);
      after = after_same _;
    }

pub list-returns-in_err-item : goal.list-returns-in_err-item
list-returns-in_err-item t c =
    let at' = c.items.invariant.after.text in
    let begun : (c.items.first || heads (begins c.args.self.now.text expr_kinds) c.items.self.left) ≡ true = rw (sym at') (sym c.may_take.ensures ∙ c.items-test.true) in
    handed _ _ _ _ _ _ c.from_residual.ensures (past c.items.invariant.after c.in_err-item.ensures.longer) (λ no. listing_err _ _ _ c.items.invariant.listing begun _ (rw (sym at') (c.in_err-item.ensures.read no)))

pub list-returns-then-not-eat : goal.list-returns-then-not-eat
list-returns-then-not-eat t c =
    let at' = c.items.invariant.after.text in
    let begun : (c.items.first || heads (begins c.args.self.now.text expr_kinds) c.items.self.left) ≡ true = rw (sym at') (sym c.may_take.ensures ∙ c.items-test.true) in
    let g = c.items.invariant.listing in
    let r = c.in_ok-item.ensures in
    let read : read_expr c.args.self.now.text (Some 64) c.args.room c.items.self.left ≡ Ok (r.value, c.expr.new.self.left) = rw (sym at') r.read in
    let moved = c.expressions_take_a_token.ensures c.args.self.now.text (Some 64) c.args.room _ _ _ read in
    let push = pushed c.push.result c.items.found.items c.push.new.self.items (c.items.found.items ++ c.in_ok-item.item ∷ []) c.push.ensures.items (sym c.is_err.ensures.value ∙ c.if-is_err.false) in
    let size : length c.push.new.self.items ≡ length c.items.found.items + 1 = ap length push ∙ length-append c.items.found.items (c.in_ok-item.item ∷ []) in
    let seen = each_more (IsTree c.items.self) (IsTree c.expr.new.self) (tree_later r.after) c.items.found.items c.push.new.self.items g.acc c.in_ok-item.item r.value push g.sees r.shown in
    let count = c.items.invariant.count in
    let e = c.if-not-eat.ensures in
    rw e.1 (record {
      value = g.acc ++ r.value ∷ [];
      shown = trees_whole c.expr.new.self c.push.new.self.items (g.acc ++ r.value ∷ []) (omega (arith, size, moved, count, c.alloc.ensures)) seen;
      read = listing_end _ _ _ g begun c.expr.new.self.left r.value moved read (rw (sym at', sym r.after.text) e.0);
      after = after_on c.items.invariant.after r.after;
    })

pub list-items-smaller : goal.list-items-smaller
list-items-smaller t c = omega (arith, shorter (after_on c.in_ok-item.ensures.after c.if-not-eat.ensures.after))

pub list-items-preserved : goal.list-items-preserved
list-items-preserved t c =
    let at' = c.items.invariant.after.text in
    let begun : (c.items.first || heads (begins c.args.self.now.text expr_kinds) c.items.self.left) ≡ true = rw (sym at') (sym c.may_take.ensures ∙ c.items-test.true) in
    let g = c.items.invariant.listing in
    let r = c.in_ok-item.ensures in
    let read : read_expr c.args.self.now.text (Some 64) c.args.room c.items.self.left ≡ Ok (r.value, c.expr.new.self.left) = rw (sym at') r.read in
    let moved = c.expressions_take_a_token.ensures c.args.self.now.text (Some 64) c.args.room _ _ _ read in
    let push = pushed c.push.result c.items.found.items c.push.new.self.items (c.items.found.items ++ c.in_ok-item.item ∷ []) c.push.ensures.items (sym c.is_err.ensures.value ∙ c.if-is_err.false) in
    let size : length c.push.new.self.items ≡ length c.items.found.items + 1 = ap length push ∙ length-append c.items.found.items (c.in_ok-item.item ∷ []) in
    let seen = each_more (IsTree c.items.self) (IsTree c.expr.new.self) (tree_later r.after) c.items.found.items c.push.new.self.items g.acc c.in_ok-item.item r.value push g.sees r.shown in
    let count = c.items.invariant.count in
    let e = c.if-not-eat.ensures in
    record {
      listing = listing_more _ _ _ g begun (Each (IsTree c.eat.new.self)) c.expr.new.self.left c.eat.new.self.left e.token r.value c.push.new.self.items (each_on _ _ (tree_later e.after) _ _ seen) moved read e.here (rw (sym at', sym r.after.text) e.seen) (rw (sym at', sym r.after.text) e.read);
      count = omega (arith, size, moved, count, ap length e.here);
      after = after_on c.items.invariant.after (after_on r.after (fewer 1 0 (omega arith) e.after));
    }

pub list-returns-then-is_err : goal.list-returns-then-is_err
list-returns-then-is_err t c = record { longer = (after_on c.items.invariant.after c.in_ok-item.ensures.after).longer; read = λ no. absurd (no refl) }

pub list-returns : goal.list-returns
list-returns t c =
    let g = c.items.invariant.listing in
    let count = c.items.invariant.count in
    record {
      value = g.acc;
      shown = trees_whole c.items.self c.items.found.items g.acc (omega (arith, count, c.alloc.ensures)) g.sees;
      read = listing_stop _ _ _ g (rw (sym c.items.invariant.after.text) (sym c.may_take.ensures ∙ c.items-test.false));
      after = c.items.invariant.after;
    }

-- ---- operators

pub binary-returns-in_err-left : goal.binary-returns-in_err-left
unfolding read_level
binary-returns-in_err-left t c =
    handed _ _ _ _ _ _ c.from_residual.ensures c.in_err-left.ensures.longer (λ no. level_is c.args.self.now.text c.args.rank c.args.used c.args.room _ (omega arith) ∙ rw (c.in_err-left.ensures.read no) refl)

pub binary-chain-init : goal.binary-chain-init
binary-chain-init t c =
    let x = c.in_ok-left.ensures in
    record { going = going_start _ _ _ _ c.args.used _ _ x.value x.shown x.read; after = x.after }

pub binary-returns-in_err-op : goal.binary-returns-in_err-op
binary-returns-in_err-op t c =
    let at' = c.chain.invariant.after.text in
    let g = c.chain.invariant.going in
    let seen : heads (begins c.args.self.now.text (kinds_of (rows_at c.args.rank))) c.chain.self.left ≡ true = rw (sym at') (sym c.begins_operator.ensures ∙ c.chain-test.true) in
    handed _ _ _ _ _ _ c.from_residual-in_err-op.ensures (past c.chain.invariant.after c.in_err-op.ensures.longer) (λ no. level_is c.args.self.now.text c.args.rank c.args.used c.args.room _ (omega arith) ∙ going_no_operator _ _ _ g seen c.chain.count g.sees.1 _ (rw (sym at') (c.in_err-op.ensures.read no)))

pub binary-returns-in_err-right : goal.binary-returns-in_err-right
binary-returns-in_err-right t c =
    let at' = c.chain.invariant.after.text in
    let g = c.chain.invariant.going in
    let o = c.in_ok-op.ensures in
    let seen : heads (begins c.args.self.now.text (kinds_of (rows_at c.args.rank))) c.chain.self.left ≡ true = rw (sym at') (sym c.begins_operator.ensures ∙ c.chain-test.true) in
    let taken : read_operator c.args.self.now.text (rows_at c.args.rank) c.chain.count c.chain.self.left ≡ Ok (o.value, c.operator.new.self.left) = rw (sym at') o.read in
    handed _ _ _ _ _ _ c.from_residual-in_err-right.ensures (past (after_on c.chain.invariant.after o.after) c.in_err-right.ensures.longer) (λ no. level_is c.args.self.now.text c.args.rank c.args.used c.args.room _ (omega arith) ∙ going_err _ _ _ g seen c.chain.count g.sees.1 o.value _ taken _ (rw (sym (o.after.text ∙ at')) (c.in_err-right.ensures.read no)))

pub binary-join-requires : goal.binary-join-requires
binary-join-requires t c =
    let g = c.chain.invariant.going in
    let o = c.in_ok-op.ensures in
    let r = c.in_ok-right.ensures in
    let on : After 1 0 c.chain.self c.binary-in-chain.new.self = after_on o.after r.after in
    record { room = has_room on; left = (tree_later on _ _ g.sees.0).0; right = r.shown.0.0 }

pub binary-returns-in_err-left-2 : goal.binary-returns-in_err-left-2
binary-returns-in_err-left-2 t c =
    let o = c.in_ok-op.ensures in
    let r = c.in_ok-right.ensures in
    no_memory _ _ _ _ _ _ c.from_residual-in_err-left-2.ensures (past (after_on c.chain.invariant.after (after_on o.after r.after)) c.in_err-left-2.ensures.1) c.in_err-left-2.ensures.0

pub binary-chain-smaller : goal.binary-chain-smaller
binary-chain-smaller t c =
    let o = c.in_ok-op.ensures in
    let r = c.in_ok-right.ensures in
    let j = c.in_ok-left-2.ensures in
    omega (arith, shorter (after_on o.after r.after), ap length j.left)

pub binary-chain-preserved : goal.binary-chain-preserved
binary-chain-preserved t c =
    let at' = c.chain.invariant.after.text in
    let g = c.chain.invariant.going in
    let o = c.in_ok-op.ensures in
    let r = c.in_ok-right.ensures in
    let j = c.in_ok-left-2.ensures in
    let seen : heads (begins c.args.self.now.text (kinds_of (rows_at c.args.rank))) c.chain.self.left ≡ true = rw (sym at') (sym c.begins_operator.ensures ∙ c.chain-test.true) in
    let taken : read_operator c.args.self.now.text (rows_at c.args.rank) c.chain.count c.chain.self.left ≡ Ok (o.value, c.operator.new.self.left) = rw (sym at') o.read in
    let item : read_binary c.args.self.now.text (Some 64) (tighter (c.args.rank + 1)) (read_unary c.args.self.now.text (Some 64) c.args.room) (c.chain.count + 1) c.operator.new.self.left ≡ Ok (r.value, c.join.new.self.left) = rw (sym (o.after.text ∙ at'), j.left) r.read in
    let on : After 1 0 c.chain.self c.binary-in-chain.new.self = after_on o.after r.after in
    let l = tree_later on _ _ g.sees.0 in
    let fewer_left = shorter on in
    record {
      going = going_step _ _ _ g seen c.chain.count g.sees.1 o.value _ taken (IsCounted c.join.new.self (c.in_ok-left-2.left, c.in_ok-right.more)) c.join.new.self.left r.value ((j.is_new, j.shown _ (binary_lasts _ _ _ _ _ _ _ o.shown.0 l r.shown.0)), r.shown.1) (omega (arith, fewer_left, ap length j.left)) item;
      after = after_on c.chain.invariant.after (spend on j.after);
    }

pub binary-returns : goal.binary-returns
binary-returns t c =
    let at' = c.chain.invariant.after.text in
    let g = c.chain.invariant.going in
    record {
      value = g.tree;
      shown = g.sees;
      read = level_is c.args.self.now.text c.args.rank c.args.used c.args.room _ (omega arith) ∙ going_end _ _ _ g (rw (sym at') (sym c.begins_operator.ensures ∙ c.chain-test.false));
      after = c.chain.invariant.after;
    }

-- ---- operands

pub unary-returns-in_err-op : goal.unary-returns-in_err-op
unary-returns-in_err-op t c =
    handed _ _ _ _ _ _ c.from_residual.ensures c.in_err-op.ensures.longer (λ no. signed c.args.self.now.text c.args.room c.args.used _ (sym c.begins_sign.ensures ∙ c.if-begins_sign.true) ∙ rw (c.in_err-op.ensures.read no) refl)

pub unary-returns-in_err-operand : goal.unary-returns-in_err-operand
unary-returns-in_err-operand t c =
    let o = c.in_ok-op.ensures in
    let deeper = ap (λ r. r c.sign.new.self.left) (deeper_unary_is c.args.self.now.text _ _ o.shown.2 c.args.used) in
    handed _ _ _ _ _ _ c.from_residual-in_err-operand.ensures (past o.after c.in_err-operand.ensures.longer) (λ no. signed c.args.self.now.text c.args.room c.args.used _ (sym c.begins_sign.ensures ∙ c.if-begins_sign.true) ∙ rw (o.read, deeper, sym o.after.text, c.in_err-operand.ensures.read no) refl)

pub unary-node-requires : goal.unary-node-requires
unary-node-requires t c =
    let o = c.in_ok-op.ensures in
    let x = c.in_ok-operand.ensures in
    record { room = has_room (after_on o.after x.after); fits = λ names le. x.shown.0.0 }

pub unary-returns-in_err-node : goal.unary-returns-in_err-node
unary-returns-in_err-node t c =
    let o = c.in_ok-op.ensures in
    let x = c.in_ok-operand.ensures in
    no_memory _ _ _ _ _ _ c.from_residual-in_err-node.ensures (past (after_on o.after x.after) c.in_err-node.ensures.1) c.in_err-node.ensures.0

pub unary-returns-then-begins_sign : goal.unary-returns-then-begins_sign
unary-returns-then-begins_sign t c =
    let o = c.in_ok-op.ensures in
    let x = c.in_ok-operand.ensures in
    let n = c.in_ok-node.ensures in
    let deeper = ap (λ r. r c.sign.new.self.left) (deeper_unary_is c.args.self.now.text _ _ o.shown.2 c.args.used) in
    record {
      value = (unary_tree o.value.0 x.value.0 o.value.1.at, x.value.1);
      shown = ((n.is_new, n.shown _ (unary_lasts _ _ _ _ _ _ _ o.shown.0 o.shown.1 x.shown.0)), x.shown.1);
      read = signed c.args.self.now.text c.args.room c.args.used _ (sym c.begins_sign.ensures ∙ c.if-begins_sign.true) ∙ rw (o.read, deeper, sym o.after.text, x.read, n.left) refl;
      after = spend (after_on o.after x.after) n.after;
    }

pub unary-returns-in_err-base : goal.unary-returns-in_err-base
unary-returns-in_err-base t c =
    handed _ _ _ _ _ _ c.from_residual-in_err-base.ensures c.in_err-base.ensures.longer (λ no. unsigned c.args.self.now.text c.args.room c.args.used _ (sym c.begins_sign.ensures ∙ c.if-begins_sign.false) ∙ rw (c.in_err-base.ensures.read no) refl)

pub unary-returns-then-not-sees : goal.unary-returns-then-not-sees
unary-returns-then-not-sees t c =
    let x = c.in_ok-base.ensures in
    record {
      value = (x.value, c.args.used);
      shown = (x.shown, refl);
      read = unsigned c.args.self.now.text c.args.room c.args.used _ (sym c.begins_sign.ensures ∙ c.if-begins_sign.false) ∙ rw (x.read, sym x.after.text, sym c.sees.ensures ∙ c.if-not-sees.true) refl;
      after = x.after;
    }

pub unary-returns-in_err-inner : goal.unary-returns-in_err-inner
unary-returns-in_err-inner t c =
    let x = c.in_ok-base.ensures in
    handed _ _ _ _ _ _ c.from_residual-in_err-inner.ensures (past x.after c.in_err-inner.ensures.longer) (λ no. unsigned c.args.self.now.text c.args.room c.args.used _ (sym c.begins_sign.ensures ∙ c.if-begins_sign.false) ∙ rw (x.read, sym x.after.text, sym c.sees.ensures ∙ c.if-not-sees.false, c.in_err-inner.ensures.read no) refl)

pub unary-returns-in_err-right : goal.unary-returns-in_err-right
unary-returns-in_err-right t c =
    let x = c.in_ok-base.ensures in
    let o = c.in_ok-inner.ensures in
    let deeper = ap (λ r. r c.power.new.self.left) (deeper_unary_is c.prim.new.self.text _ _ o.shown.0 (c.args.used + 1)) in
    handed _ _ _ _ _ _ c.from_residual-in_err-right.ensures (past (after_on x.after o.after) c.in_err-right.ensures.longer) (λ no. unsigned c.args.self.now.text c.args.room c.args.used _ (sym c.begins_sign.ensures ∙ c.if-begins_sign.false) ∙ rw (x.read, sym x.after.text, sym c.sees.ensures ∙ c.if-not-sees.false, o.read, deeper, sym o.after.text, c.in_err-right.ensures.read no) refl)

pub unary-join-requires : goal.unary-join-requires
unary-join-requires t c =
    let x = c.in_ok-base.ensures in
    let o = c.in_ok-inner.ensures in
    let r = c.in_ok-right.ensures in
    let on : After 1 0 c.prim.new.self c.unary-2.new.self = after_on o.after r.after in
    record { room = has_room on; left = (tree_later on _ _ x.shown).0; right = r.shown.0.0 }

pub unary-returns-in_err-node-2 : goal.unary-returns-in_err-node-2
unary-returns-in_err-node-2 t c =
    let x = c.in_ok-base.ensures in
    let o = c.in_ok-inner.ensures in
    let r = c.in_ok-right.ensures in
    no_memory _ _ _ _ _ _ c.from_residual-in_err-node-2.ensures (past (after_on x.after (after_on o.after r.after)) c.in_err-node-2.ensures.1) c.in_err-node-2.ensures.0

pub unary-returns : goal.unary-returns
unary-returns t c =
    let x = c.in_ok-base.ensures in
    let o = c.in_ok-inner.ensures in
    let r = c.in_ok-right.ensures in
    let n = c.in_ok-node-2.ensures in
    let deeper = ap (λ r. r c.power.new.self.left) (deeper_unary_is c.prim.new.self.text _ _ o.shown.0 (c.args.used + 1)) in
    let on : After 1 0 c.prim.new.self c.unary-2.new.self = after_on o.after r.after in
    let l = tree_later on _ _ x.shown in
    record {
      value = (binary_tree op.Power x.value r.value.0 (place_of x.value), r.value.1);
      shown = ((n.is_new, n.shown _ (binary_lasts _ _ _ _ _ _ _ refl l r.shown.0)), r.shown.1);
      read = unsigned c.args.self.now.text c.args.room c.args.used _ (sym c.begins_sign.ensures ∙ c.if-begins_sign.false) ∙ rw (x.read, sym x.after.text, sym c.sees.ensures ∙ c.if-not-sees.false, o.read, deeper, sym o.after.text, r.read, n.left) refl;
      after = after_on x.after (spend on n.after);
    }

pub prim-returns-then-begins_literal : goal.prim-returns-then-begins_literal
unfolding read_prim
prim-returns-then-begins_literal t c = instead 0 _ _ IsTree _ (take_one (literal_of c.args.self.now.text)) c.literal.result (rw (sym c.begins_literal.ensures ∙ c.if-begins_literal.true) refl) c.literal.ensures

pub prim-returns-then-sees : goal.prim-returns-then-sees
unfolding read_prim
prim-returns-then-sees t c =
    instead 0 _ _ IsTree _ _ c.between.result (rw (sym c.begins_literal.ensures ∙ c.if-begins_literal.false, sym c.sees.ensures ∙ c.if-sees.true) refl) (spared _ _ IsTree _ c.between.result c.between.ensures)

pub prim-returns-then-begins_type : goal.prim-returns-then-begins_type
unfolding read_prim
prim-returns-then-begins_type t c =
    instead 0 _ _ IsTree _ _ c.cast.result (rw (sym c.begins_literal.ensures ∙ c.if-begins_literal.false, sym c.sees.ensures ∙ c.if-sees.false, sym c.begins_type.ensures ∙ c.if-begins_type.true) refl) c.cast.ensures

pub prim-returns : goal.prim-returns
unfolding read_prim
prim-returns t c =
    instead 0 _ _ IsTree _ _ c.named.result (rw (sym c.begins_literal.ensures ∙ c.if-begins_literal.false, sym c.sees.ensures ∙ c.if-sees.false, sym c.begins_type.ensures ∙ c.if-begins_type.false) refl) c.named.ensures
