use Rattle.std.proofs.Common.{refl, sym, ap, ◌∙◌, arith}
use Rattle.qasm_ast.specs.Tree.{absent, present}
use Rattle.qasm_grammar.specs.Parts.{over_range}
use Rattle.qasm_grammar.specs.Reader.{read_span, read_behind_second}
use Rattle.qasm_parser.proofs.Growing.{after_on, fewer}
use Rattle.program_parser.proofs.Standing.{later, tree_stands}
use Rattle.program_parser.proofs.Exits.{handed}
use Rattle.program_parser.proofs.Putting.{inner_open}
use Rattle.program_parser.proofs.turns.span.Goals as goal

pub returns-in_err-inner : goal.returns-in_err-inner
unfolding read_span
returns-in_err-inner c = handed _ _ _ _ _ _ c.from_residual.ensures (λ no. rw (c.in_err-inner.ensures.read no) refl)

pub returns-in_err-start : goal.returns-in_err-start
unfolding read_span read_behind_second
returns-in_err-start c =
    let o = c.in_ok-inner.ensures in
    let inner = inner_open c.enter.new.self.text _ _ o.shown in
    handed _ _ _ _ _ _ c.from_residual-in_err-start.ensures (λ no. rw (o.read, sym o.after.text, ap (λ r. r c.enter.new.self.left) inner, c.in_err-start.ensures.read no) refl)

pub returns-in_err-mark : goal.returns-in_err-mark
unfolding read_span read_behind_second
returns-in_err-mark c =
    let o = c.in_ok-inner.ensures in
    let inner = inner_open c.enter.new.self.text _ _ o.shown in
    let a = c.in_ok-start.ensures in
    handed _ _ _ _ _ _ c.from_residual-in_err-mark.ensures (λ no. rw (o.read, sym o.after.text, ap (λ r. r c.enter.new.self.left) inner, a.read, sym a.after.text, c.in_err-mark.ensures.read no) refl)

pub returns-in_err-second : goal.returns-in_err-second
unfolding read_span read_behind_second
returns-in_err-second c =
    let o = c.in_ok-inner.ensures in
    let inner = inner_open c.enter.new.self.text _ _ o.shown in
    let a = c.in_ok-start.ensures in
    let m = c.in_ok-mark.ensures in
    let deeper = inner_open c.mark.new.self.text _ _ o.shown in
    handed _ _ _ _ _ _ c.from_residual-in_err-second.ensures (λ no. rw (o.read, sym o.after.text, ap (λ r. r c.enter.new.self.left) inner, a.read, sym a.after.text, m.read, sym m.after.text, ap (λ r. r c.mark.new.self.left) deeper, c.in_err-second.ensures.read no) refl)

pub returns-in_err-mark-2 : goal.returns-in_err-mark-2
unfolding read_span read_behind_second
returns-in_err-mark-2 c =
    let o = c.in_ok-inner.ensures in
    let inner = inner_open c.enter.new.self.text _ _ o.shown in
    let a = c.in_ok-start.ensures in
    let m = c.in_ok-mark.ensures in
    let deeper = inner_open c.mark.new.self.text _ _ o.shown in
    let b = c.in_ok-second.ensures in
    let colon = sym c.sees.ensures ∙ c.if-sees.true in
    handed _ _ _ _ _ _ c.from_residual-in_err-mark-2.ensures (λ no. rw (o.read, sym o.after.text, ap (λ r. r c.enter.new.self.left) inner, a.read, sym a.after.text, m.read, sym m.after.text, ap (λ r. r c.mark.new.self.left) deeper, b.read, sym b.after.text, colon, c.in_err-mark-2.ensures.read no) refl)

pub returns-in_err-third : goal.returns-in_err-third
unfolding read_span read_behind_second
returns-in_err-third c =
    let o = c.in_ok-inner.ensures in
    let inner = inner_open c.enter.new.self.text _ _ o.shown in
    let a = c.in_ok-start.ensures in
    let m = c.in_ok-mark.ensures in
    let deeper = inner_open c.mark.new.self.text _ _ o.shown in
    let b = c.in_ok-second.ensures in
    let colon = sym c.sees.ensures ∙ c.if-sees.true in
    let n = c.in_ok-mark-2.ensures in
    let deepest = inner_open c.mark-then-sees.new.self.text _ _ o.shown in
    handed _ _ _ _ _ _ c.from_residual-in_err-third.ensures (λ no. rw (o.read, sym o.after.text, ap (λ r. r c.enter.new.self.left) inner, a.read, sym a.after.text, m.read, sym m.after.text, ap (λ r. r c.mark.new.self.left) deeper, b.read, sym b.after.text, colon, n.read, sym n.after.text, ap (λ r. r c.mark-then-sees.new.self.left) deepest, c.in_err-third.ensures.read no) refl)

pub returns-in_err-mark-3 : goal.returns-in_err-mark-3
unfolding read_span read_behind_second
returns-in_err-mark-3 c =
    let o = c.in_ok-inner.ensures in
    let inner = inner_open c.enter.new.self.text _ _ o.shown in
    let a = c.in_ok-start.ensures in
    let m = c.in_ok-mark.ensures in
    let deeper = inner_open c.mark.new.self.text _ _ o.shown in
    let b = c.in_ok-second.ensures in
    let colon = sym c.sees.ensures ∙ c.if-sees.true in
    let n = c.in_ok-mark-2.ensures in
    let deepest = inner_open c.mark-then-sees.new.self.text _ _ o.shown in
    let t = c.in_ok-third.ensures in
    handed _ _ _ _ _ _ c.from_residual-in_err-mark-3.ensures (λ no. rw (o.read, sym o.after.text, ap (λ r. r c.enter.new.self.left) inner, a.read, sym a.after.text, m.read, sym m.after.text, ap (λ r. r c.mark.new.self.left) deeper, b.read, sym b.after.text, colon, n.read, sym n.after.text, ap (λ r. r c.mark-then-sees.new.self.left) deepest, t.read, sym t.after.text, c.in_err-mark-3.ensures.read no) refl)

pub returns-then-sees : goal.returns-then-sees
unfolding read_span read_behind_second
returns-then-sees c =
    let o = c.in_ok-inner.ensures in
    let inner = inner_open c.enter.new.self.text _ _ o.shown in
    let a = c.in_ok-start.ensures in
    let m = c.in_ok-mark.ensures in
    let deeper = inner_open c.mark.new.self.text _ _ o.shown in
    let b = c.in_ok-second.ensures in
    let colon = sym c.sees.ensures ∙ c.if-sees.true in
    let n = c.in_ok-mark-2.ensures in
    let deepest = inner_open c.mark-then-sees.new.self.text _ _ o.shown in
    let t = c.in_ok-third.ensures in
    let s = c.in_ok-mark-3.ensures in
    let first = later (after_on m.after (after_on b.after (after_on n.after (after_on t.after s.after)))).longer (tree_stands _ _ _ a.shown) in
    let second = later (after_on n.after (after_on t.after s.after)).longer (tree_stands _ _ _ b.shown) in
    let third = later s.after.longer (tree_stands _ _ _ t.shown) in
    record {
      value = over_range a.value (present b.value) t.value;
      shown = record { holds = λ v f. let q = second.holds v f in (first.holds v f, q.0, ap present q.1, third.holds v f) };
      read = rw (o.read, sym o.after.text, ap (λ r. r c.enter.new.self.left) inner, a.read, sym a.after.text, m.read, sym m.after.text, ap (λ r. r c.mark.new.self.left) deeper, b.read, sym b.after.text, colon, n.read, sym n.after.text, ap (λ r. r c.mark-then-sees.new.self.left) deepest, t.read, sym t.after.text, s.read) refl;
      after = fewer 4 1 (omega arith) (after_on o.after (after_on a.after (after_on m.after (after_on b.after (after_on n.after (after_on t.after s.after))))));
    }

pub returns-in_err-mark-4 : goal.returns-in_err-mark-4
unfolding read_span read_behind_second
returns-in_err-mark-4 c =
    let o = c.in_ok-inner.ensures in
    let inner = inner_open c.enter.new.self.text _ _ o.shown in
    let a = c.in_ok-start.ensures in
    let m = c.in_ok-mark.ensures in
    let deeper = inner_open c.mark.new.self.text _ _ o.shown in
    let b = c.in_ok-second.ensures in
    let end = sym c.sees.ensures ∙ c.if-sees.false in
    handed _ _ _ _ _ _ c.from_residual-in_err-mark-4.ensures (λ no. rw (o.read, sym o.after.text, ap (λ r. r c.enter.new.self.left) inner, a.read, sym a.after.text, m.read, sym m.after.text, ap (λ r. r c.mark.new.self.left) deeper, b.read, sym b.after.text, end, c.in_err-mark-4.ensures.read no) refl)

pub returns : goal.returns
unfolding read_span read_behind_second
returns c =
    let o = c.in_ok-inner.ensures in
    let inner = inner_open c.enter.new.self.text _ _ o.shown in
    let a = c.in_ok-start.ensures in
    let m = c.in_ok-mark.ensures in
    let deeper = inner_open c.mark.new.self.text _ _ o.shown in
    let b = c.in_ok-second.ensures in
    let end = sym c.sees.ensures ∙ c.if-sees.false in
    let s = c.in_ok-mark-4.ensures in
    let first = later (after_on m.after (after_on b.after s.after)).longer (tree_stands _ _ _ a.shown) in
    let second = later s.after.longer (tree_stands _ _ _ b.shown) in
    record {
      value = over_range a.value absent b.value;
      shown = record { holds = λ v f. (first.holds v f, tt, refl, second.holds v f) };
      read = rw (o.read, sym o.after.text, ap (λ r. r c.enter.new.self.left) inner, a.read, sym a.after.text, m.read, sym m.after.text, ap (λ r. r c.mark.new.self.left) deeper, b.read, sym b.after.text, end, s.read) refl;
      after = fewer 3 1 (omega arith) (after_on o.after (after_on a.after (after_on m.after (after_on b.after s.after))));
    }
