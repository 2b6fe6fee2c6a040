use Rattle.std.proofs.Common.{length, refl, sym, arith}
use Rattle.qasm_ast.specs.Tree.{give, value_of}
use Rattle.qasm_ast.specs.Whole.{ValueFits}
use Rattle.qasm_grammar.specs.Grammar.{at_one}
use Rattle.qasm_grammar.specs.Reader.{read_return_line}
use Rattle.qasm_parser.proofs.Growing.{after_on, fewer}
use Rattle.program_parser.specs.World.{sub_in}
use Rattle.program_parser.proofs.Standing.{later, maybe_in, line_stands}
use Rattle.program_parser.proofs.actions.return_line.Goals as goal

pub returns : goal.returns
unfolding read_return_line
returns c =
    let w = c.in_ok-at.ensures in
    let o = c.in_ok-found.ensures in
    let s = c.in_ok-mark.ensures in
    record {
      value = at_one (give o.value) w.value.at;
      shown = line_stands _ _ _ _ _ c.line.ensures (λ v f. let q = maybe_in (ValueFits v.known (length v.exprs)) (value_of v.names (sub_in v)) v _ _ ((later s.after.longer o.shown).holds v f) in (q.0, rw (q.1, w.shown) refl));
      read = rw (w.read, sym w.after.text, o.read, sym o.after.text, s.read) refl;
      after = fewer 2 1 (omega arith) (after_on w.after (after_on o.after s.after));
    }
