use Rattle.std.proofs.Common.{sym, refl, ap, ◌∙◌, arith}
use Rattle.qasm_lexer.specs.declared.token.Token.{Token}
use Rattle.qasm_grammar.specs.Parts.{statements}
use Rattle.qasm_parser.proofs.Growing.{after_on, fewer}
use Rattle.program_parser.proofs.Standing.{later}
use Rattle.program_parser.proofs.Exits.{handed}
use Rattle.program_parser.proofs.Nesting.{gate_body_shut, gate_body_inside}
use Rattle.program_parser.proofs.gates.gate_body.Goals as goal

pub returns-in_err-inner : goal.returns-in_err-inner
returns-in_err-inner c = handed _ _ _ _ _ _ c.from_residual.ensures (λ no. gate_body_shut c.args.parser.now.text c.args.room c.args.parser.now.left _ (c.in_err-inner.ensures.read no))

pub returns-in_err-statements : goal.returns-in_err-statements
returns-in_err-statements c =
    let o = c.in_ok-inner.ensures in
    let inside = gate_body_inside c.args.parser.now.text c.args.room c.in_ok-inner.inner c.args.parser.now.left c.enter.new.self.left o.value o.shown o.read in
    handed _ _ _ _ _ _ c.from_residual-in_err-statements.ensures (λ no. inside ∙ rw (sym o.after.text, c.in_err-statements.ensures no) refl)

pub returns-in_err-close : goal.returns-in_err-close
returns-in_err-close c =
    let o = c.in_ok-inner.ensures in
    let inside = gate_body_inside c.args.parser.now.text c.args.room c.in_ok-inner.inner c.args.parser.now.left c.enter.new.self.left o.value o.shown o.read in
    let ss = c.in_ok-statements.ensures in
    handed _ _ _ _ _ _ c.from_residual-in_err-close.ensures (λ no. inside ∙ rw (sym o.after.text, ss.read, sym ss.after.text, c.in_err-close.ensures.read no) refl)

pub returns : goal.returns
returns c =
    let o = c.in_ok-inner.ensures in
    let inside = gate_body_inside c.args.parser.now.text c.args.room c.in_ok-inner.inner c.args.parser.now.left c.enter.new.self.left o.value o.shown o.read in
    let ss = c.in_ok-statements.ensures in
    let e = c.in_ok-close.ensures in
    let stands = later e.after.longer ss.shown in
    record {
      value = record { statements = statements ss.value; close = e.value.at };
      shown = record { holds = λ v f. (stands.holds v f, ap (λ (s : Token). s.at) e.shown) };
      read = inside ∙ rw (sym o.after.text, ss.read, sym ss.after.text, e.read) refl;
      after = fewer 2 1 (omega arith) (after_on o.after (after_on ss.after e.after));
    }
