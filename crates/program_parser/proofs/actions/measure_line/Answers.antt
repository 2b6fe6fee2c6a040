use Rattle.std.proofs.Common.{length, refl, sym, arith}
use Rattle.qasm_ast.specs.Tree.{measurement, operand_of}
use Rattle.qasm_ast.specs.Whole.{OperandFits}
use Rattle.qasm_grammar.specs.Grammar.{at_one}
use Rattle.qasm_grammar.specs.Reader.{read_measure_line}
use Rattle.qasm_parser.proofs.Growing.{after_on, fewer}
use Rattle.program_parser.specs.World.{sub_in}
use Rattle.program_parser.proofs.Standing.{later, maybe_in, line_stands}
use Rattle.program_parser.proofs.actions.measure_line.Goals as goal

pub returns : goal.returns
unfolding read_measure_line
returns c =
    let w = c.in_ok-at.ensures in
    let o = c.in_ok-found.ensures in
    let g = c.in_ok-aim.ensures in
    let s = c.in_ok-mark.ensures in
    record {
      value = at_one (measurement o.value g.value) w.value.at;
      shown = line_stands _ _ _ _ _ c.line.ensures (λ v f. let p = (later (after_on g.after s.after).longer o.shown).holds v f in let q = maybe_in (OperandFits v.known (length v.exprs)) (operand_of v.names (sub_in v)) v _ _ ((later s.after.longer g.shown).holds v f) in ((p.0, q.0), rw (p.1, q.1, w.shown) refl));
      read = rw (w.read, sym w.after.text, o.read, sym o.after.text, g.read, sym g.after.text, s.read) refl;
      after = fewer 3 1 (omega arith) (after_on w.after (after_on o.after (after_on g.after s.after)));
    }
