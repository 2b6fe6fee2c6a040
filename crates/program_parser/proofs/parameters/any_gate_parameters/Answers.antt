use Rattle.std.proofs.Common.{◌∷◌, [], false, length, refl, sym, ap, ◌∙◌, arith}
use Rattle.qasm_expr.specs.Reader.{read_between, read_listed}
use Rattle.qasm_grammar.specs.Reader.{read_name, read_any_gate_parameters}
use Rattle.qasm_parser.proofs.Growing.{after_same, after_on, fewer}
use Rattle.qasm_parser.proofs.Showing.{each_none}
use Rattle.program_parser.proofs.Standing.{later, each_stands}
use Rattle.program_parser.proofs.Exits.{handed}
use Rattle.program_parser.proofs.parameters.any_gate_parameters.Goals as goal

pub returns-then-not-sees : goal.returns-then-not-sees
unfolding read_any_gate_parameters read_between
returns-then-not-sees c = record { value = []; shown = each_stands _ _ _ _ (omega (arith, ap length c.new.ensures.items)) (each_none _ _ c.new.ensures.items); read = rw (sym c.sees.ensures ∙ c.if-not-sees.true) refl; after = after_same _ }

pub returns-in_err-inner : goal.returns-in_err-inner
unfolding read_any_gate_parameters read_between
returns-in_err-inner c = handed _ _ _ _ _ _ c.from_residual.ensures (λ no. rw (sym c.sees.ensures ∙ c.if-not-sees.false, c.in_err-inner.ensures.read no) refl)

pub returns-in_err-found : goal.returns-in_err-found
unfolding read_any_gate_parameters read_between
returns-in_err-found c =
    let o = c.in_ok-inner.ensures in
    let deeper = refl {a = read_listed c.args.parser.now.text (1 ∷ []) false (read_name c.args.parser.now.text) c.enter.new.self.left} in
    handed _ _ _ _ _ _ c.from_residual-in_err-found.ensures (λ no. rw (sym c.sees.ensures ∙ c.if-not-sees.false, o.read, deeper, sym o.after.text, c.in_err-found.ensures no) refl)

pub returns-in_err-mark : goal.returns-in_err-mark
unfolding read_any_gate_parameters read_between
returns-in_err-mark c =
    let o = c.in_ok-inner.ensures in
    let deeper = refl {a = read_listed c.args.parser.now.text (1 ∷ []) false (read_name c.args.parser.now.text) c.enter.new.self.left} in
    let x = c.in_ok-found.ensures in
    handed _ _ _ _ _ _ c.from_residual-in_err-mark.ensures (λ no. rw (sym c.sees.ensures ∙ c.if-not-sees.false, o.read, deeper, sym o.after.text, x.read, sym x.after.text, c.in_err-mark.ensures.read no) refl)

pub returns : goal.returns
unfolding read_any_gate_parameters read_between
returns c =
    let o = c.in_ok-inner.ensures in
    let deeper = refl {a = read_listed c.args.parser.now.text (1 ∷ []) false (read_name c.args.parser.now.text) c.enter.new.self.left} in
    let x = c.in_ok-found.ensures in
    let s = c.in_ok-mark.ensures in
    record {
      value = x.value;
      shown = later s.after.longer x.shown;
      read = rw (sym c.sees.ensures ∙ c.if-not-sees.false, o.read, deeper, sym o.after.text, x.read, sym x.after.text, s.read) refl;
      after = fewer 2 0 (omega arith) (after_on o.after (after_on x.after s.after));
    }
