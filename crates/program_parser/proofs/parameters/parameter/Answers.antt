use Rattle.std.proofs.Common.{refl, sym, ap, ◌∙◌, arith}
use Rattle.qasm_lexer.specs.declared.token.Token.{Token}
use Rattle.qasm_ast.specs.Tree.{maybe}
use Rattle.qasm_expr.specs.Grammar.{scalar}
use Rattle.qasm_grammar.specs.Reader.{read_parameter}
use Rattle.qasm_parser.proofs.Growing.{after_on, fewer}
use Rattle.program_parser.proofs.Standing.{later}
use Rattle.program_parser.proofs.Exits.{handed}
use Rattle.program_parser.proofs.Putting.{parameter_stands, qubit_parameter_stands}
use Rattle.qasm_ast.specs.declared.expr.Base.TheVariants as b
use Rattle.program_parser.proofs.parameters.parameter.Goals as goal

pub returns-then-begins_type : goal.returns-then-begins_type
unfolding read_parameter
returns-then-begins_type c =
    let y = c.in_ok-ty.ensures in
    let x = c.in_ok-name.ensures in
    record {
      value = record { type = y.value; name = x.value };
      shown = parameter_stands _ _ _ _ _ (later x.after.longer y.shown) x.shown;
      read = rw (sym c.begins_type.ensures ∙ c.if-begins_type.true, y.read, sym y.after.text, x.read) refl;
      after = fewer 2 1 (omega arith) (after_on y.after x.after);
    }

pub returns-in_err-width : goal.returns-in_err-width
unfolding read_parameter
returns-in_err-width c =
    let w = c.in_ok-at.ensures in
    handed _ _ _ _ _ _ c.from_residual-in_err-width.ensures (λ no. rw (sym c.begins_type.ensures ∙ c.if-begins_type.false, w.read, sym w.after.text, c.in_err-width.ensures no) refl)

pub returns-in_err-name-2 : goal.returns-in_err-name-2
unfolding read_parameter
returns-in_err-name-2 c =
    let w = c.in_ok-at.ensures in
    let e = c.in_ok-width.ensures in
    handed _ _ _ _ _ _ c.from_residual-in_err-name-2.ensures (λ no. rw (sym c.begins_type.ensures ∙ c.if-begins_type.false, w.read, sym w.after.text, e.read, sym e.after.text, c.in_err-name-2.ensures no) refl)

pub returns : goal.returns
unfolding read_parameter
returns c =
    let w = c.in_ok-at.ensures in
    let e = c.in_ok-width.ensures in
    let x = c.in_ok-name-2.ensures in
    record {
      value = record { type = scalar b.Qubit (maybe e.value) w.value.at; name = x.value };
      shown = qubit_parameter_stands _ _ _ _ _ _ _ (ap (λ (t : Token). t.at) w.shown) (later x.after.longer e.shown) x.shown;
      read = rw (sym c.begins_type.ensures ∙ c.if-begins_type.false, w.read, sym w.after.text, e.read, sym e.after.text, x.read) refl;
      after = fewer 2 1 (omega arith) (after_on w.after (after_on e.after x.after));
    }
