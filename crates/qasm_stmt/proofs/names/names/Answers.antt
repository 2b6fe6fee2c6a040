use Rattle.std.proofs.Common.{◌≡◌, ◌≤◌, ◌<◌, ◌||◌, ◌++◌, ◌∷◌, [], true, length, drop, refl, sym, ap, ◌∙◌, length-drop, length-append, arith}
use Rattle.grammar_parts.specs.Reading.{heads}
use Rattle.qasm_expr.specs.Reader.{begins}
use Rattle.qasm_expr.proofs.Units.{pushed}
use Rattle.qasm_grammar.specs.Reader.{read_name, name_kinds}
use Rattle.qasm_grammar.proofs.Moves.{name_moves}
use Rattle.qasm_stmt.specs.Seen.{Each, IsName}
use Rattle.qasm_stmt.proofs.Growing.{each_none, grown_same, grown_on, name_later}
use Rattle.qasm_expr.proofs.Loops.{listing_start, listing_stop, listing_end, listing_more}
use Rattle.qasm_stmt.proofs.Filling.{each_more}
use Rattle.qasm_stmt.proofs.names.names.Goals as goal
use Rattle.qasm_stmt.proofs.names.names.Goals.{then-first, else-first+then-begins_name}

pub items-init : goal.items-init
items-init c =
    record {
      listing = listing_start c.args.text.now name_kinds (read_name c.args.text.now) c.args.tokens.now c.args.from (Each (IsName c.args.arena.now)) c.args.filled c.new-found.result.items (each_none _ _ c.new-found.ensures.items) c.requires.within;
      count = omega (arith, ap length c.new-found.ensures.items);
      grown = grown_same _;
      kept = refl;
      few = c.requires.few;
      sound = c.requires.sound;
    }

pub returns-then-not-sees-clause-gives : goal.returns-then-not-sees-clause-gives
returns-then-not-sees-clause-gives c =
    let g = c.items.invariant.listing in
    let r = c.in_ok-item.ensures.gives in
    let shorter : length (drop c.in_ok-item.next c.args.tokens.now) < length (drop c.items.at c.args.tokens.now) = name_moves c.args.text.now (drop c.items.at c.args.tokens.now) r.0 (drop c.in_ok-item.next c.args.tokens.now) r.4 in
    let on : c.items.at < c.in_ok-item.next = omega (arith, shorter, length-drop c.in_ok-item.next c.args.tokens.now, length-drop c.items.at c.args.tokens.now) in
    let push = pushed c.push.result c.items.found.items c.push.new.self.items (c.items.found.items ++ c.in_ok-item.item ∷ []) c.push.ensures.items (sym c.is_err.ensures.value ∙ c.if-is_err.false) in
    let seen = each_more (IsName c.items.arena) (IsName c.declared.new.arena) (name_later c.items.invariant.sound c.in_ok-item.ensures.grown) c.items.found.items c.push.new.self.items g.acc c.in_ok-item.item r.0 push g.sees r.1 in
    let begun : (c.items.first || heads (begins c.args.text.now name_kinds) (drop c.items.at c.args.tokens.now)) ≡ true = elim c.if-first.branch [
      | then-first w ↦ rw (w.if-first.true) refl
      | else-first+then-begins_name w ↦ rw (w.if-first.false, sym w.begins_name.ensures ∙ w.if-begins_name.true) refl
    ] in
    let le0 : c.args.from ≤ c.items.at = g.from_at in
    let few = c.requires.cut.few in
    let count = c.items.invariant.count in
    (g.acc ++ r.0 ∷ [], (omega (arith, few, count, ap length push, length-append c.items.found.items (c.in_ok-item.item ∷ []), on, r.3), seen), omega (arith, on, le0), r.3, listing_end c.args.text.now name_kinds (read_name c.args.text.now) c.args.tokens.now c.args.from g begun c.in_ok-item.next r.0 on r.3 r.4 (sym c.sees.ensures.value ∙ c.if-not-sees.true))

pub items-preserved : goal.items-preserved
items-preserved c =
    let g = c.items.invariant.listing in
    let r = c.in_ok-item.ensures.gives in
    let shorter : length (drop c.in_ok-item.next c.args.tokens.now) < length (drop c.items.at c.args.tokens.now) = name_moves c.args.text.now (drop c.items.at c.args.tokens.now) r.0 (drop c.in_ok-item.next c.args.tokens.now) r.4 in
    let on : c.items.at < c.in_ok-item.next = omega (arith, shorter, length-drop c.in_ok-item.next c.args.tokens.now, length-drop c.items.at c.args.tokens.now) in
    let push = pushed c.push.result c.items.found.items c.push.new.self.items (c.items.found.items ++ c.in_ok-item.item ∷ []) c.push.ensures.items (sym c.is_err.ensures.value ∙ c.if-is_err.false) in
    let seen = each_more (IsName c.items.arena) (IsName c.declared.new.arena) (name_later c.items.invariant.sound c.in_ok-item.ensures.grown) c.items.found.items c.push.new.self.items g.acc c.in_ok-item.item r.0 push g.sees r.1 in
    let begun : (c.items.first || heads (begins c.args.text.now name_kinds) (drop c.items.at c.args.tokens.now)) ≡ true = elim c.if-first.branch [
      | then-first w ↦ rw (w.if-first.true) refl
      | else-first+then-begins_name w ↦ rw (w.if-first.false, sym w.begins_name.ensures ∙ w.if-begins_name.true) refl
    ] in
    let few = c.in_ok-item.ensures.few in
    let count = c.items.invariant.count in
    record {
      listing = listing_more c.args.text.now name_kinds (read_name c.args.text.now) c.args.tokens.now c.args.from g begun (Each (IsName c.declared.new.arena)) c.in_ok-item.next r.0 c.push.new.self.items seen on r.3 r.4 (sym c.sees.ensures.value ∙ c.if-not-sees.false);
      count = omega (arith, count, ap length push, length-append c.items.found.items (c.in_ok-item.item ∷ []), on);
      grown = grown_on c.items.invariant.grown c.in_ok-item.ensures.grown;
      kept = c.in_ok-item.ensures.kept ∙ c.items.invariant.kept;
      few = (omega (arith, few.0), omega (arith, few.1), omega (arith, few.2));
      sound = c.in_ok-item.ensures.sound;
    }

pub returns-clause-gives : goal.returns-clause-gives
returns-clause-gives c =
    let g = c.items.invariant.listing in
    let end : c.items.at ≤ length c.args.tokens.now = g.at_end in
    let few = c.requires.cut.few in
    let count = c.items.invariant.count in
    (g.acc, (omega (arith, few, count, end), g.sees), g.from_at, g.at_end, listing_stop c.args.text.now name_kinds (read_name c.args.text.now) c.args.tokens.now c.args.from g (rw (c.if-first.false, sym c.begins_name.ensures ∙ c.if-begins_name.false) refl))
