use Rattle.std.proofs.Common.{refl, sym, arith}
use Rattle.qasm_ast.specs.Tree.{output}
use Rattle.qasm_grammar.specs.Grammar.{at_one}
use Rattle.qasm_grammar.specs.Reader.{read_output_line}
use Rattle.qasm_parser.proofs.Growing.{after_on, fewer}
use Rattle.program_parser.proofs.Standing.{later, line_stands}
use Rattle.program_parser.proofs.declarations.output_line.Goals as goal

pub returns : goal.returns
unfolding read_output_line
returns c =
    let w = c.in_ok-at.ensures in
    let y = c.in_ok-ty.ensures in
    let x = c.in_ok-name.ensures in
    let s = c.in_ok-mark.ensures in
    record {
      value = at_one (output y.value x.value) w.value.at;
      shown = line_stands _ _ _ _ _ c.line.ensures (λ v f. let p = (later (after_on x.after s.after).longer y.shown).holds v f in let n = (later s.after.longer x.shown).holds v f in ((p.0, n.0), rw (p.1, n.1, w.shown) refl));
      read = rw (w.read, sym w.after.text, y.read, sym y.after.text, x.read, sym x.after.text, s.read) refl;
      after = fewer 4 1 (omega arith) (after_on w.after (after_on y.after (after_on x.after s.after)));
    }
