use Rattle.std.proofs.Common.{Some, None, refl, sym, ap, ◌∙◌, arith}
use Rattle.qasm_ast.specs.Tree.{assign, expression, Operand}
use Rattle.qasm_grammar.specs.Grammar.{at_one}
use Rattle.qasm_grammar.specs.Reader.{read_assigned}
use Rattle.qasm_parser.proofs.Growing.{after_on, fewer}
use Rattle.program_parser.proofs.Standing.{later, tree_stands, line_stands}
use Rattle.program_parser.proofs.Exits.{handed}
use Rattle.program_parser.proofs.actions.assigned.Goals as goal

pub returns-in_err-mark : goal.returns-in_err-mark
unfolding read_assigned
returns-in_err-mark c = λ o known. handed _ _ _ _ _ _ c.from_residual.ensures (λ no. rw (sym c.sees.ensures ∙ c.if-sees.true, c.in_err-mark.ensures.read no) refl)

pub returns-in_err-found : goal.returns-in_err-found
unfolding read_assigned
returns-in_err-found c =
    λ o known.
    let a = c.in_ok-mark.ensures in
    handed _ _ _ _ _ _ c.from_residual-in_err-found.ensures (λ no. rw (sym c.sees.ensures ∙ c.if-sees.true, a.read, sym a.after.text, c.in_err-found.ensures no) refl)

pub returns-in_err-mark-2 : goal.returns-in_err-mark-2
unfolding read_assigned
returns-in_err-mark-2 c =
    λ o known.
    let a = c.in_ok-mark.ensures in
    let x = c.in_ok-found.ensures in
    handed _ _ _ _ _ _ c.from_residual-in_err-mark-2.ensures (λ no. rw (sym c.sees.ensures ∙ c.if-sees.true, a.read, sym a.after.text, x.read, sym x.after.text, c.in_err-mark-2.ensures.read no) refl)

pub returns-then-sees : goal.returns-then-sees
unfolding read_assigned
returns-then-sees c =
    λ o known.
    let a = c.in_ok-mark.ensures in
    let x = c.in_ok-found.ensures in
    let s = c.in_ok-mark-2.ensures in
    record {
      value = at_one (assign o None x.value) o.place;
      shown = line_stands _ _ _ _ _ c.line.ensures (λ v f. let p = (later (after_on a.after (after_on x.after s.after)).longer known).holds v f in let q = (later s.after.longer x.shown).holds v f in ((p.0, tt, q.0), rw (p.1, ap (λ (t : Operand). t.place) p.1, q.1) refl));
      read = rw (sym c.sees.ensures ∙ c.if-sees.true, a.read, sym a.after.text, x.read, sym x.after.text, s.read) refl;
      after = fewer 2 1 (omega arith) (after_on a.after (after_on x.after s.after));
    }

pub returns-in_err-op : goal.returns-in_err-op
unfolding read_assigned
returns-in_err-op c = λ o known. handed _ _ _ _ _ _ c.from_residual-in_err-op.ensures (λ no. rw (sym c.sees.ensures ∙ c.if-sees.false, c.in_err-op.ensures no) refl)

pub returns-in_err-operand : goal.returns-in_err-operand
unfolding read_assigned
returns-in_err-operand c =
    λ o known.
    let a = c.in_ok-op.ensures in
    handed _ _ _ _ _ _ c.from_residual-in_err-operand.ensures (λ no. rw (sym c.sees.ensures ∙ c.if-sees.false, a.read, sym a.after.text, c.in_err-operand.ensures.read no) refl)

pub returns-in_err-mark-3 : goal.returns-in_err-mark-3
unfolding read_assigned
returns-in_err-mark-3 c =
    λ o known.
    let a = c.in_ok-op.ensures in
    let x = c.in_ok-operand.ensures in
    handed _ _ _ _ _ _ c.from_residual-in_err-mark-3.ensures (λ no. rw (sym c.sees.ensures ∙ c.if-sees.false, a.read, sym a.after.text, x.read, sym x.after.text, c.in_err-mark-3.ensures.read no) refl)

pub returns : goal.returns
unfolding read_assigned
returns c =
    λ o known.
    let a = c.in_ok-op.ensures in
    let x = c.in_ok-operand.ensures in
    let s = c.in_ok-mark-3.ensures in
    record {
      value = at_one (assign o (Some a.value.0) (expression x.value)) o.place;
      shown = line_stands _ _ _ _ _ c.line-2.ensures (λ v f. let p = (later (after_on a.after (after_on x.after s.after)).longer known).holds v f in let q = (later s.after.longer (tree_stands _ _ _ x.shown)).holds v f in let b = (later (after_on x.after s.after).longer a.shown).holds v f in ((p.0, tt, q.0), rw (p.1, ap (λ (t : Operand). t.place) p.1, q.1, b) refl));
      read = rw (sym c.sees.ensures ∙ c.if-sees.false, a.read, sym a.after.text, x.read, sym x.after.text, s.read) refl;
      after = fewer 2 1 (omega arith) (after_on a.after (after_on x.after s.after));
    }
