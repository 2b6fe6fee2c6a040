use Rattle.std.proofs.Common.{◌∷◌, ◌++◌, [], length, sym, ap, subst, ◌∙◌, length-append, arith}
use Rattle.qasm_parser.proofs.Growing.{after_on, fewer}
use Rattle.qasm_parser.proofs.Showing.{shorter, each_more}
use Rattle.qasm_parser.proofs.Exits.{pushed}
use Rattle.qasm_parser.specs.Shows.{Each}
use Rattle.program_parser.specs.World.{Stands}
use Rattle.program_parser.specs.Shows.{OperandIn}
use Rattle.program_parser.proofs.Standing.{later, each_stands}
use Rattle.program_parser.proofs.Exits.{handed}
use Rattle.program_parser.proofs.Joining.{joining_start, joining_stop, joining_err, joining_more}
use Rattle.program_parser.proofs.declarations.joined.Goals as goal

pub joins-init : goal.joins-init
joins-init c =
    let o = c.in_ok-first.ensures in
    let push = pushed c.push.result c.new-found.result.items c.push.new.self.items (c.new-found.result.items ++ c.in_ok-first.first ∷ []) c.push.ensures.items (sym c.is_err.ensures.value ∙ c.if-is_err.false) ∙ ap (λ l. l ++ c.in_ok-first.first ∷ []) c.new-found.ensures.items in
    record {
      joining = joining_start _ _ _ (Stands OperandIn c.operand.new.parser) c.push.new.self.items o.value _ (subst (λ l. Each (Stands OperandIn c.operand.new.parser) l (o.value ∷ [])) (sym push) (o.shown, tt)) o.read;
      count = omega (arith, ap length push, shorter o.after);
      after = o.after;
    }

pub returns-in_err-item : goal.returns-in_err-item
returns-in_err-item c =
    let at' = c.joins.invariant.after.text in
    let e = c.joins-test.ensures in
    handed _ _ _ _ _ _ c.from_residual-in_err-item.ensures (λ no. joining_err _ _ _ c.joins.invariant.joining (rw (sym at') e.seen) e.token c.eat.new.self.left (rw (sym at') e.read) _ (rw (sym at', sym e.after.text) (c.in_err-item.ensures no)))

pub joins-preserved : goal.joins-preserved
joins-preserved c =
    let at' = c.joins.invariant.after.text in
    let g = c.joins.invariant.joining in
    let e = c.joins-test.ensures in
    let r = c.in_ok-item.ensures in
    let on = after_on e.after r.after in
    let push = pushed c.push-in-joins.result c.joins.found.items c.push-in-joins.new.self.items (c.joins.found.items ++ c.in_ok-item.item ∷ []) c.push-in-joins.ensures.items (sym c.is_err-in-joins.ensures.value ∙ c.if-is_err-2.false) in
    let seen = each_more (Stands OperandIn c.joins.parser) (Stands OperandIn c.operand-in-joins.new.parser) (λ x a h. later on.longer h) c.joins.found.items c.push-in-joins.new.self.items (g.first ∷ g.repeating.acc) c.in_ok-item.item r.value push g.repeating.sees r.shown in
    record {
      joining = joining_more _ _ _ g (rw (sym at') e.seen) e.token c.eat.new.self.left (rw (sym at') e.read) (Stands OperandIn c.operand-in-joins.new.parser) c.push-in-joins.new.self.items r.value c.operand-in-joins.new.parser.left seen (omega (arith, shorter on)) (rw (sym at', sym e.after.text) r.read);
      count = omega (arith, ap length push, length-append c.joins.found.items (c.in_ok-item.item ∷ []), shorter on, c.joins.invariant.count);
      after = fewer 3 1 (omega arith) (after_on c.joins.invariant.after on);
    }

pub returns : goal.returns
returns c =
    let g = c.joins.invariant.joining in
    let count = c.joins.invariant.count in
    let e = c.joins-test.ensures in
    rw e.1 (record {
      value = g.first ∷ g.repeating.acc;
      shown = each_stands _ _ c.joins.found (g.first ∷ g.repeating.acc) (omega (arith, count, c.alloc.ensures)) g.repeating.sees;
      read = joining_stop _ _ _ g (rw (sym c.joins.invariant.after.text) e.0);
      after = c.joins.invariant.after;
    })
