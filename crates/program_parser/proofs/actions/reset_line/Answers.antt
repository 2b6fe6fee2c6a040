use Rattle.std.proofs.Common.{refl, sym, arith}
use Rattle.qasm_ast.specs.Tree.{reset}
use Rattle.qasm_grammar.specs.Grammar.{at_one}
use Rattle.qasm_grammar.specs.Reader.{read_reset_line}
use Rattle.qasm_parser.proofs.Growing.{after_on, fewer}
use Rattle.program_parser.proofs.Standing.{later, line_stands}
use Rattle.program_parser.proofs.actions.reset_line.Goals as goal

pub returns : goal.returns
unfolding read_reset_line
returns c =
    let w = c.in_ok-at.ensures in
    let o = c.in_ok-found.ensures in
    let s = c.in_ok-mark.ensures in
    record {
      value = at_one (reset o.value) w.value.at;
      shown = line_stands _ _ _ _ _ c.line.ensures (λ v f. let p = (later s.after.longer o.shown).holds v f in (p.0, rw (p.1, w.shown) refl));
      read = rw (w.read, sym w.after.text, o.read, sym o.after.text, s.read) refl;
      after = fewer 3 1 (omega arith) (after_on w.after (after_on o.after s.after));
    }
