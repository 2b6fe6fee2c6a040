use Rattle.std.proofs.Common.{◌≡◌, ◌≤◌, ◌++◌, ◌∷◌, [], Some, true, ◌||◌, length, drop, sym, ap, ◌∙◌, length-append, arith, refl}
use Rattle.grammar_parts.specs.Reading.{heads}
use Rattle.qasm_expr.specs.Reader.{begins}
use Rattle.qasm_expr.proofs.Units.{pushed}
use Rattle.qasm_grammar.specs.Reader.{operand_kinds}
use Rattle.qasm_grammar.proofs.Moves.{operand_moves}
use Rattle.qasm_stmt.specs.Seen.{Each, IsOperand}
use Rattle.qasm_stmt.proofs.Filling.{each_more, goes_on, or_true, or_false}
use Rattle.qasm_stmt.proofs.Growing.{each_none, grown_same, grown_on, operand_later}
use Rattle.qasm_expr.proofs.Exits.{handed}
use Rattle.qasm_expr.proofs.Loops.{listing_start, listing_stop, listing_err, listing_end, listing_more}
use Rattle.qasm_stmt.proofs.operands.operands.Goals.{then-first, else-first+then-begins_operand}
use Rattle.qasm_stmt.proofs.operands.operands.Goals as goal

pub items-init : goal.items-init
items-init c =
    record {
      listing = listing_start _ _ _ _ _ _ _ _ (each_none _ _ c.new-found.ensures.items) c.requires.within;
      count = omega (arith, ap length c.new-found.ensures.items);
      grown = grown_same _;
      kept = refl;
      few = c.requires.few;
      sound = c.requires.sound;
    }

pub returns-in_err-item-clause-gives : goal.returns-in_err-item-clause-gives
returns-in_err-item-clause-gives c =
    let g = c.items.invariant.listing in
    let begun : (c.items.first || heads (begins c.args.text.now operand_kinds) (drop c.items.at c.args.tokens.now)) ≡ true = elim c.if-first.branch [
      | then-first w ↦ or_true _ _ w.if-first.true
      | else-first+then-begins_operand w ↦ or_false _ _ _ w.if-first.false (sym w.begins_operand.ensures ∙ w.if-begins_operand.true)
    ] in
    handed _ _ _ _ c.from_residual.ensures c.in_err-item.ensures.gives g.from_at (listing_err _ _ _ _ _ g begun)

pub returns-then-not-sees-clause-gives : goal.returns-then-not-sees-clause-gives
returns-then-not-sees-clause-gives c =
    let g = c.items.invariant.listing in
    let r = c.in_ok-item.ensures.gives in
    let begun : (c.items.first || heads (begins c.args.text.now operand_kinds) (drop c.items.at c.args.tokens.now)) ≡ true = elim c.if-first.branch [
      | then-first w ↦ or_true _ _ w.if-first.true
      | else-first+then-begins_operand w ↦ or_false _ _ _ w.if-first.false (sym w.begins_operand.ensures ∙ w.if-begins_operand.true)
    ] in
    let on = goes_on c.args.tokens.now c.items.at c.in_ok-item.next (operand_moves c.args.text.now (Some 64) c.args.room _ _ _ r.4) in
    let le0 : c.args.from ≤ c.items.at = g.from_at in
    let push = pushed c.push.result c.items.found.items c.push.new.self.items (c.items.found.items ++ c.in_ok-item.item ∷ []) c.push.ensures.items (sym c.is_err.ensures.value ∙ c.if-is_err.false) in
    let seen = each_more (IsOperand c.items.arena) (IsOperand c.operand.new.arena) (operand_later c.items.invariant.sound c.in_ok-item.ensures.grown) c.items.found.items c.push.new.self.items g.acc c.in_ok-item.item r.0 push g.sees r.1 in
    (g.acc ++ r.0 ∷ [], (omega (arith, ap length push, length-append c.items.found.items (c.in_ok-item.item ∷ []), on, r.3, c.items.invariant.count, c.requires.cut.few), seen), omega (arith, on, le0), r.3, listing_end _ _ _ _ _ g begun c.in_ok-item.next r.0 on r.3 r.4 (sym c.sees.ensures.value ∙ c.if-not-sees.true))

pub items-preserved : goal.items-preserved
items-preserved c =
    let g = c.items.invariant.listing in
    let r = c.in_ok-item.ensures.gives in
    let begun : (c.items.first || heads (begins c.args.text.now operand_kinds) (drop c.items.at c.args.tokens.now)) ≡ true = elim c.if-first.branch [
      | then-first w ↦ or_true _ _ w.if-first.true
      | else-first+then-begins_operand w ↦ or_false _ _ _ w.if-first.false (sym w.begins_operand.ensures ∙ w.if-begins_operand.true)
    ] in
    let on = goes_on c.args.tokens.now c.items.at c.in_ok-item.next (operand_moves c.args.text.now (Some 64) c.args.room _ _ _ r.4) in
    let push = pushed c.push.result c.items.found.items c.push.new.self.items (c.items.found.items ++ c.in_ok-item.item ∷ []) c.push.ensures.items (sym c.is_err.ensures.value ∙ c.if-is_err.false) in
    let seen = each_more (IsOperand c.items.arena) (IsOperand c.operand.new.arena) (operand_later c.items.invariant.sound c.in_ok-item.ensures.grown) c.items.found.items c.push.new.self.items g.acc c.in_ok-item.item r.0 push g.sees r.1 in
    let few = c.in_ok-item.ensures.few in
    record {
      listing = listing_more _ _ _ _ _ g begun (Each (IsOperand c.operand.new.arena)) c.in_ok-item.next r.0 c.push.new.self.items seen on r.3 r.4 (sym c.sees.ensures.value ∙ c.if-not-sees.false);
      count = omega (arith, ap length push, length-append c.items.found.items (c.in_ok-item.item ∷ []), on, c.items.invariant.count);
      grown = grown_on c.items.invariant.grown c.in_ok-item.ensures.grown;
      kept = c.in_ok-item.ensures.kept ∙ c.items.invariant.kept;
      few = (omega (arith, few.0), omega (arith, few.1), omega (arith, few.2));
      sound = c.in_ok-item.ensures.sound;
    }

pub returns-clause-gives : goal.returns-clause-gives
returns-clause-gives c =
    let g = c.items.invariant.listing in
    let end : c.items.at ≤ length c.args.tokens.now = g.at_end in
    (g.acc, (omega (arith, c.items.invariant.count, c.requires.cut.few), g.sees), g.from_at, g.at_end, listing_stop _ _ _ _ _ g (or_false _ _ _ c.if-first.false (sym c.begins_operand.ensures ∙ c.if-begins_operand.false)))
