use Rattle.std.proofs.Common.{◌∷◌, ◌++◌, [], refl, sym, ap, ◌∙◌, arith}
use Rattle.qasm_grammar.specs.Parts.{declared, call_of}
use Rattle.qasm_grammar.specs.Reader.{read_any_operands, read_phase}
use Rattle.qasm_parser.proofs.Growing.{after_on, fewer}
use Rattle.qasm_parser.proofs.Exits.{pushed}
use Rattle.program_parser.proofs.Standing.{later, name_stands}
use Rattle.program_parser.proofs.Exits.{handed}
use Rattle.program_parser.proofs.Putting.{one_tree, plain_stands, phase_as}
use Rattle.program_parser.proofs.calls.phase.Goals as goal

pub returns-in_err-gate : goal.returns-in_err-gate
unfolding read_phase read_any_operands
returns-in_err-gate c = handed _ _ _ _ _ _ c.from_residual.ensures (λ no. phase_as c.args.parser.now.text c.args.room c.args.parser.now.left ∙ rw (c.in_err-gate.ensures.read no) refl)

pub returns-in_err-angle : goal.returns-in_err-angle
unfolding read_phase read_any_operands
returns-in_err-angle c =
    let w = c.in_ok-gate.ensures in
    handed _ _ _ _ _ _ c.from_residual-in_err-angle.ensures (λ no. phase_as c.args.parser.now.text c.args.room c.args.parser.now.left ∙ rw (w.read, sym w.after.text, c.in_err-angle.ensures no) refl)

pub returns-in_err-operands : goal.returns-in_err-operands
unfolding read_phase read_any_operands
returns-in_err-operands c =
    let w = c.in_ok-gate.ensures in
    let e = c.in_ok-angle.ensures in
    handed _ _ _ _ _ _ c.from_residual-in_err-operands.ensures (λ no. phase_as c.args.parser.now.text c.args.room c.args.parser.now.left ∙ rw (w.read, sym w.after.text, e.read, sym e.after.text, c.in_err-operands.ensures no) refl)

pub returns-in_err-mark : goal.returns-in_err-mark
unfolding read_phase read_any_operands
returns-in_err-mark c =
    let w = c.in_ok-gate.ensures in
    let e = c.in_ok-angle.ensures in
    let o = c.in_ok-operands.ensures in
    handed _ _ _ _ _ _ c.from_residual-in_err-mark.ensures (λ no. phase_as c.args.parser.now.text c.args.room c.args.parser.now.left ∙ rw (w.read, sym w.after.text, e.read, sym e.after.text, o.read, sym o.after.text, c.in_err-mark.ensures.read no) refl)

pub returns : goal.returns
unfolding read_phase read_any_operands
returns c =
    let w = c.in_ok-gate.ensures in
    let e = c.in_ok-angle.ensures in
    let o = c.in_ok-operands.ensures in
    let s = c.in_ok-mark.ensures in
    let on = after_on e.after (after_on o.after s.after) in
    let push = pushed c.push.result c.new-args.result.items c.push.new.self.items (c.new-args.result.items ++ c.in_ok-angle.angle ∷ []) c.push.ensures.items (sym c.is_err.ensures.value ∙ c.if-is_err.false) in
    record {
      value = call_of (declared w.value) (e.value ∷ []) o.value;
      shown = plain_stands _ _ _ _ _ _ _ _ c.new.ensures.items (later on.longer (name_stands _ _ _ w.shown)) (one_tree _ _ _ _ (push ∙ ap (λ l. l ++ c.in_ok-angle.angle ∷ []) c.new-args.ensures.items) (later (after_on o.after s.after).longer e.shown)) (later s.after.longer o.shown);
      read = phase_as c.args.parser.now.text c.args.room c.args.parser.now.left ∙ rw (w.read, sym w.after.text, e.read, sym e.after.text, o.read, sym o.after.text, s.read) refl;
      after = fewer 3 1 (omega arith) (after_on w.after on);
    }
