use Rattle.std.proofs.Common.{◌-◌, ◌≤◌, ◌<◌, ◌∷◌, ◌++◌, [], Some, length, drop, refl, sym, ap, subst, ◌∙◌, le_refl, length-drop, length-append, arith}
use Rattle.qasm_expr.proofs.Units.{pushed}
use Rattle.qasm_grammar.specs.Parts.{statements}
use Rattle.qasm_grammar.specs.Reader.{member_kinds, read_member}
use Rattle.qasm_stmt.specs.Seen.{Each, IsMember}
use Rattle.qasm_stmt.proofs.Growing.{each_none, grown_same, grown_on, each_on, each_push, member_later}
use Rattle.qasm_expr.proofs.Loops.{repeating_start, repeating_stop, repeating_err, repeating_more}
use Rattle.qasm_expr.proofs.Exits.{handed, handed_mark}
use Rattle.qasm_stmt.proofs.Nesting.{gate_body_shut, gate_body_inside, member_list}
use Rattle.qasm_stmt.proofs.Members.{member_moves}
use Rattle.qasm_stmt.proofs.gates.gate_body.Goals as goal

pub returns-in_err-inside-clause-gives : goal.returns-in_err-inside-clause-gives
returns-in_err-inside-clause-gives c =
    handed_mark _ _ _ _ c.from_residual.ensures c.in_err-inside.ensures.passes (le_refl _) c.requires.within (λ x h. gate_body_shut c.args.text.now c.args.room (drop c.args.from c.args.tokens.now) x h)

pub members-init : goal.members-init
members-init c =
    let o = c.in_ok-inside.ensures.passes in
    let old = c.requires.few in
    record {
      repeating = repeating_start c.args.text.now member_kinds (read_member c.args.text.now (Some 64) (c.args.room - 1)) c.args.tokens.now c.in_ok-inside.inside (Each (IsMember c.args.arena.now)) c.new-statements.result.items (each_none _ _ c.new-statements.ensures.items) o.2;
      count = omega (arith, ap length c.new-statements.ensures.items);
      at_start = omega (arith, o.1);
      room = omega (arith, c.in_ok-inside.ensures.has_room);
      grown = grown_same c.args.arena.now;
      paid = le_refl _;
      few = (omega (arith, o.1, old.0), omega (arith, o.1, old.1), omega (arith, o.1, old.2));
      sound = c.requires.sound;
    }

pub returns-in_err-id-clause-gives : goal.returns-in_err-id-clause-gives
returns-in_err-id-clause-gives c =
    let o = c.in_ok-inside.ensures.passes in
    let inside = gate_body_inside c.args.text.now c.args.room (drop c.args.from c.args.tokens.now) (drop c.in_ok-inside.inside c.args.tokens.now) o.0 c.in_ok-inside.ensures.has_room o.4 in
    let g = c.members.invariant.repeating in
    handed _ _ _ _ c.from_residual-in_err-id.ensures c.in_err-id.ensures.gives (omega (arith, c.members.invariant.at_start, g.from_at)) (λ x h. inside ∙ rw (repeating_err c.args.text.now member_kinds (read_member c.args.text.now (Some 64) (c.args.room - 1)) c.args.tokens.now c.in_ok-inside.inside g (sym c.begins_member.ensures ∙ c.members-test.true) x h) refl)

pub members-smaller : goal.members-smaller
members-smaller c =
    let r = c.in_ok-id.ensures.gives in
    let shorter : length (drop c.in_ok-id.next c.args.tokens.now) < length (drop c.members.at c.args.tokens.now) = member_moves c.args.text.now (Some 64) (c.args.room - 1) (drop c.members.at c.args.tokens.now) (drop c.in_ok-id.next c.args.tokens.now) r.0 r.4 in
    let on : c.members.at < c.in_ok-id.next = omega (arith, shorter, length-drop c.in_ok-id.next c.args.tokens.now, length-drop c.members.at c.args.tokens.now) in
    omega (arith, on, r.3)

pub members-preserved : goal.members-preserved
members-preserved c =
    let g = c.members.invariant.repeating in
    let r = c.in_ok-id.ensures.gives in
    let shorter : length (drop c.in_ok-id.next c.args.tokens.now) < length (drop c.members.at c.args.tokens.now) = member_moves c.args.text.now (Some 64) (c.args.room - 1) (drop c.members.at c.args.tokens.now) (drop c.in_ok-id.next c.args.tokens.now) r.0 r.4 in
    let on : c.members.at < c.in_ok-id.next = omega (arith, shorter, length-drop c.in_ok-id.next c.args.tokens.now, length-drop c.members.at c.args.tokens.now) in
    let push = pushed c.push.result c.members.statements.items c.push.new.self.items (c.members.statements.items ++ c.in_ok-id.id ∷ []) c.push.ensures.items (sym c.is_err.ensures.value ∙ c.if-is_err.false) in
    let kept = each_on (IsMember c.members.arena) (IsMember c.member.new.arena) (member_later c.members.invariant.sound c.in_ok-id.ensures.grown) c.members.statements.items g.acc g.sees in
    let seen = subst (λ l. Each (IsMember c.member.new.arena) l (g.acc ++ r.0 ∷ [])) (sym push) (each_push (IsMember c.member.new.arena) c.members.statements.items g.acc c.in_ok-id.id r.0 kept r.1) in
    record {
      repeating = repeating_more c.args.text.now member_kinds (read_member c.args.text.now (Some 64) (c.args.room - 1)) c.args.tokens.now c.in_ok-inside.inside g (sym c.begins_member.ensures ∙ c.members-test.true) (Each (IsMember c.member.new.arena)) c.in_ok-id.next r.0 c.push.new.self.items seen on r.3 r.4;
      count = omega (arith, ap length push, length-append c.members.statements.items (c.in_ok-id.id ∷ []), on, c.members.invariant.count);
      at_start = c.members.invariant.at_start;
      room = c.members.invariant.room;
      grown = grown_on c.members.invariant.grown c.in_ok-id.ensures.grown;
      paid = omega (arith, c.members.invariant.paid, c.in_ok-id.ensures.paid);
      few = c.in_ok-id.ensures.few;
      sound = c.in_ok-id.ensures.sound;
    }

pub returns-in_err-close-clause-gives : goal.returns-in_err-close-clause-gives
returns-in_err-close-clause-gives c =
    let o = c.in_ok-inside.ensures.passes in
    let inside = gate_body_inside c.args.text.now c.args.room (drop c.args.from c.args.tokens.now) (drop c.in_ok-inside.inside c.args.tokens.now) o.0 c.in_ok-inside.ensures.has_room o.4 in
    let g = c.members.invariant.repeating in
    handed _ _ _ _ c.from_residual-in_err-close.ensures c.in_err-close.ensures.gives (omega (arith, c.members.invariant.at_start, g.from_at)) (λ x h. inside ∙ rw (repeating_stop c.args.text.now member_kinds (read_member c.args.text.now (Some 64) (c.args.room - 1)) c.args.tokens.now c.in_ok-inside.inside g (sym c.begins_member.ensures ∙ c.members-test.false), h) refl)

pub returns-clause-gives : goal.returns-clause-gives
returns-clause-gives c =
    let o = c.in_ok-inside.ensures.passes in
    let inside = gate_body_inside c.args.text.now c.args.room (drop c.args.from c.args.tokens.now) (drop c.in_ok-inside.inside c.args.tokens.now) o.0 c.in_ok-inside.ensures.has_room o.4 in
    let g = c.members.invariant.repeating in
    let e = c.in_ok-close.ensures.gives in
    let end : c.members.at ≤ length c.args.tokens.now = g.at_end in
    let l = member_list c.members.arena c.members.statements.items g.acc (omega (arith, end, c.members.invariant.count, c.requires.cut.few)) g.sees in
    (record { statements = statements g.acc; close = e.0.at }, (l.0, l.1, e.1), omega (arith, c.members.invariant.at_start, g.from_at, e.2), e.3, inside ∙ rw (repeating_stop c.args.text.now member_kinds (read_member c.args.text.now (Some 64) (c.args.room - 1)) c.args.tokens.now c.in_ok-inside.inside g (sym c.begins_member.ensures ∙ c.members-test.false), e.4) refl)

pub returns-clause-spare : goal.returns-clause-spare
returns-clause-spare c =
    let e = c.in_ok-close.ensures.gives in
    omega (arith, c.members.invariant.at_start, c.members.invariant.paid, e.2)
