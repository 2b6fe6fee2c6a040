use Rattle.std.proofs.Common.{[], ◌∷◌, ◌++◌, length, drop, Some, ◌≤◌, false, refl, sym, ap, subst, ◌∙◌, lit<, length-append, arith}
use Rattle.qasm_lexer.specs.declared.token.Mark.TheVariants as m
use Rattle.qasm_expr.specs.TokenKinds.{mark_kind}
use Rattle.qasm_expr.proofs.Places.{heads_sign}
use Rattle.qasm_expr.proofs.Units.{pushed}
use Rattle.qasm_grammar.specs.Reader.{symbol_kinds, read_joined}
use Rattle.qasm_stmt.specs.Seen.{Each, IsOperand}
use Rattle.qasm_stmt.proofs.Growing.{each_none, grown_same, grown_on, each_on, each_push, operand_later}
use Rattle.qasm_expr.proofs.Exits.{handed}
use Rattle.qasm_stmt.proofs.Lines.{mark_seen}
use Rattle.qasm_expr.proofs.Loops.{repeating_start, repeating_stop, repeating_err, repeating_more}
use Rattle.qasm_stmt.proofs.declarations.joins.Goals as goal

pub joins-init : goal.joins-init
joins-init c = record {
  repeating = repeating_start c.args.text.now (symbol_kinds m.PlusPlus) (read_joined c.args.text.now (Some 64) c.args.room) c.args.tokens.now c.args.from (Each (IsOperand c.args.arena.now)) c.new-found.result.items (each_none _ _ c.new-found.ensures.items) c.requires.within;
  count = omega (arith, ap length c.new-found.ensures.items);
  grown = grown_same _;
  kept = refl;
  few = c.requires.few;
  sound = c.requires.sound;
}

pub returns-in_err-item-clause-gives : goal.returns-in_err-item-clause-gives
returns-in_err-item-clause-gives c =
    let g = c.joins.invariant.repeating in
    let from_at : c.args.from ≤ c.joins.at = g.from_at in
    let s = mark_seen c.args.text.now c.args.tokens.now c.joins.at (mark_kind m.PlusPlus) (lit< tt) g.at_end (sym c.sees.ensures.value ∙ c.joins-test.true) in
    handed _ _ _ _ c.from_residual.ensures c.in_err-item.ensures.gives (omega arith) (λ x h. repeating_err c.args.text.now (symbol_kinds m.PlusPlus) (read_joined c.args.text.now (Some 64) c.args.room) c.args.tokens.now c.args.from g s.1 x (rw (s.3, h) refl))

pub joins-preserved : goal.joins-preserved
joins-preserved c =
    let g = c.joins.invariant.repeating in
    let from_at : c.args.from ≤ c.joins.at = g.from_at in
    let s = mark_seen c.args.text.now c.args.tokens.now c.joins.at (mark_kind m.PlusPlus) (lit< tt) g.at_end (sym c.sees.ensures.value ∙ c.joins-test.true) in
    let o = c.in_ok-item.ensures.gives in
    let push = pushed c.push.result c.joins.found.items c.push.new.self.items (c.joins.found.items ++ c.in_ok-item.item ∷ []) c.push.ensures.items (sym c.is_err.ensures.value ∙ c.if-is_err.false) in
    let before = each_on (IsOperand c.joins.arena) (IsOperand c.operand.new.arena) (operand_later c.joins.invariant.sound c.in_ok-item.ensures.grown) c.joins.found.items g.acc g.sees in
    let seen = subst (λ l. Each (IsOperand c.operand.new.arena) l (g.acc ++ o.0 ∷ [])) (sym push) (each_push (IsOperand c.operand.new.arena) c.joins.found.items g.acc c.in_ok-item.item o.0 before o.1) in
    record {
      repeating = repeating_more c.args.text.now (symbol_kinds m.PlusPlus) (read_joined c.args.text.now (Some 64) c.args.room) c.args.tokens.now c.args.from g s.1 (Each (IsOperand c.operand.new.arena)) c.in_ok-item.next o.0 c.push.new.self.items seen (omega arith) o.3 (rw (s.3, o.4) refl);
      count = omega (arith, c.joins.invariant.count, ap length push, length-append c.joins.found.items (c.in_ok-item.item ∷ []));
      grown = grown_on c.joins.invariant.grown c.in_ok-item.ensures.grown;
      kept = c.in_ok-item.ensures.kept ∙ c.joins.invariant.kept;
      few = c.in_ok-item.ensures.few;
      sound = c.in_ok-item.ensures.sound;
    }

pub returns-clause-gives : goal.returns-clause-gives
returns-clause-gives c =
    let g = c.joins.invariant.repeating in
    let at_end : c.joins.at ≤ length c.args.tokens.now = g.at_end in
    let shut = heads_sign c.args.text.now (mark_kind m.PlusPlus) (drop c.joins.at c.args.tokens.now) false (lit< tt) (sym c.sees.ensures.value ∙ c.joins-test.false) in
    (g.acc, (omega (arith, c.joins.invariant.count, c.requires.cut.few), g.sees), g.from_at, g.at_end, repeating_stop c.args.text.now (symbol_kinds m.PlusPlus) (read_joined c.args.text.now (Some 64) c.args.room) c.args.tokens.now c.args.from g shut)
