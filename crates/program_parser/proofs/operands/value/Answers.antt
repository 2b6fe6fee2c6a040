use Rattle.std.proofs.Common.{refl, sym, ◌∙◌, arith}
use Rattle.qasm_ast.specs.Tree.{expression, measured}
use Rattle.qasm_grammar.specs.Reader.{read_value}
use Rattle.qasm_parser.proofs.Growing.{after_on, fewer}
use Rattle.program_parser.proofs.Standing.{tree_stands}
use Rattle.program_parser.proofs.Putting.{expression_stands, measured_stands}
use Rattle.program_parser.proofs.operands.value.Goals as goal

pub returns-then-begins_expr : goal.returns-then-begins_expr
unfolding read_value
returns-then-begins_expr c =
    let e = c.in_ok-expr.ensures in
    record { value = expression e.value; shown = expression_stands _ _ _ (tree_stands _ _ _ e.shown); read = rw (sym c.begins_expr.ensures ∙ c.if-begins_expr.true, e.read) refl; after = e.after }

pub returns : goal.returns
unfolding read_value
returns c =
    let w = c.in_ok-word.ensures in
    let o = c.in_ok-measured.ensures in
    record {
      value = measured o.value;
      shown = measured_stands _ _ _ o.shown;
      read = rw (sym c.begins_expr.ensures ∙ c.if-begins_expr.false, w.read, sym w.after.text, o.read) refl;
      after = fewer 2 0 (omega arith) (after_on w.after o.after);
    }
