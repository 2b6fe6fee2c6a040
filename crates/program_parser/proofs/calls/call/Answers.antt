use Rattle.std.proofs.Common.{◌∷◌, ◌++◌, [], length, sym, ap, ◌∙◌, length-append, arith}
use Rattle.qasm_parser.proofs.Growing.{after_same, after_on, fewer}
use Rattle.qasm_parser.proofs.Showing.{shorter, each_more}
use Rattle.qasm_parser.proofs.Exits.{pushed}
use Rattle.program_parser.specs.World.{Stands}
use Rattle.program_parser.specs.Shows.{ChangeIn}
use Rattle.program_parser.proofs.Standing.{later, each_stands, each_later}
use Rattle.program_parser.proofs.Exits.{handed}
use Rattle.program_parser.proofs.Putting.{unchanged_in}
use Rattle.program_parser.proofs.Changing.{changing_start, changing_full, changing_err, changing_at, changing_more, changing_plain, changing_end}
use Rattle.program_parser.proofs.calls.call.Goals as goal

pub mods-init : goal.mods-init
mods-init c =
    record {
      changing = changing_start _ _ c.new-mods.result.items _ _ c.new-mods.ensures.items;
      count = omega (arith, ap length c.new-mods.ensures.items);
      after = after_same _;
    }

pub returns-then-left-eq0 : goal.returns-then-left-eq0
returns-then-left-eq0 c =
    let at' = c.mods.invariant.after.text in
    λ no. changing_full _ c.mods.invariant.changing (rw (sym at') (sym c.begins.ensures ∙ c.mods-test.true)) c.if-left-eq0.true

pub returns-in_err-change : goal.returns-in_err-change
returns-in_err-change c =
    let at' = c.mods.invariant.after.text in
    handed _ _ _ _ _ _ c.from_residual.ensures (λ no. changing_err _ c.mods.invariant.changing (rw (sym at') (sym c.begins.ensures ∙ c.mods-test.true)) (omega arith) _ (rw (sym at') (c.in_err-change.ensures no)))

pub returns-in_err-mark : goal.returns-in_err-mark
returns-in_err-mark c =
    let at' = c.mods.invariant.after.text in
    let r = c.in_ok-change.ensures in
    handed _ _ _ _ _ _ c.from_residual-in_err-mark.ensures (λ no. changing_at _ c.mods.invariant.changing (rw (sym at') (sym c.begins.ensures ∙ c.mods-test.true)) (omega arith) r.value c.modifier.new.parser.left (rw (sym at') r.read) _ (rw (sym at', sym r.after.text) (c.in_err-mark.ensures.read no)))

pub mods-smaller : goal.mods-smaller
mods-smaller c = omega (arith, shorter (after_on c.in_ok-change.ensures.after c.in_ok-mark.ensures.after))

pub mods-preserved : goal.mods-preserved
mods-preserved c =
    let at' = c.mods.invariant.after.text in
    let g = c.mods.invariant.changing in
    let r = c.in_ok-change.ensures in
    let s = c.in_ok-mark.ensures in
    let push = pushed c.push.result c.mods.mods.items c.push.new.self.items (c.mods.mods.items ++ c.in_ok-change.change ∷ []) c.push.ensures.items (sym c.is_err.ensures.value ∙ c.if-is_err.false) in
    let seen = each_more (Stands ChangeIn c.mods.parser) (Stands ChangeIn c.mark.new.self) (λ x a h. later (after_on r.after s.after).longer h) c.mods.mods.items c.push.new.self.items g.acc c.in_ok-change.change r.value push g.sees (later s.after.longer r.shown) in
    record {
      changing = changing_more _ g (rw (sym at') (sym c.begins.ensures ∙ c.mods-test.true)) (omega arith) r.value c.modifier.new.parser.left (rw (sym at') r.read) (Stands ChangeIn c.mark.new.self) c.mark.new.self.left s.value c.push.new.self.items seen (rw (sym at', sym r.after.text) s.read);
      count = omega (arith, ap length push, length-append c.mods.mods.items (c.in_ok-change.change ∷ []), shorter (after_on r.after s.after), c.mods.invariant.count);
      after = fewer 2 0 (omega arith) (after_on c.mods.invariant.after (after_on r.after s.after));
    }

pub returns-in_err-plain : goal.returns-in_err-plain
returns-in_err-plain c =
    let at' = c.mods.invariant.after.text in
    handed _ _ _ _ _ _ c.from_residual-in_err-plain.ensures (λ no. changing_plain _ c.mods.invariant.changing (rw (sym at') (sym c.begins.ensures ∙ c.mods-test.false)) _ (rw (sym at') (c.in_err-plain.ensures no)))

pub returns : goal.returns
returns c =
    let at' = c.mods.invariant.after.text in
    let g = c.mods.invariant.changing in
    let r = c.in_ok-plain.ensures in
    let count = c.mods.invariant.count in
    let changes = each_stands _ ChangeIn c.mods.mods g.acc (omega (arith, count, c.alloc.ensures)) (each_later ChangeIn r.after.longer _ _ g.sees) in
    record {
      value = record { changes = g.acc; name = r.value.name; arguments = r.value.arguments; operands = r.value.operands };
      shown = record { holds = λ v f. let p = r.shown.holds v f in record { changes = changes.holds v f; name = p.call.name; arguments = p.call.arguments; operands = p.call.operands } };
      read = changing_end _ g (rw (sym at') (sym c.begins.ensures ∙ c.mods-test.false)) r.value _ (unchanged_in _ _ _ r.shown) (rw (sym at') r.read);
      after = after_on c.mods.invariant.after r.after;
    }
