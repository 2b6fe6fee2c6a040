use Rattle.std.proofs.Common.{refl, sym, arith}
use Rattle.qasm_ast.specs.Tree.{qubits, maybe}
use Rattle.qasm_expr.specs.Grammar.{scalar}
use Rattle.qasm_grammar.specs.Grammar.{at_one}
use Rattle.qasm_grammar.specs.Reader.{read_qreg_line}
use Rattle.qasm_parser.proofs.Growing.{after_on, fewer}
use Rattle.program_parser.proofs.Standing.{later, width_in, line_stands}
use Rattle.program_parser.proofs.Putting.{qubit_fits}
use Rattle.qasm_ast.specs.declared.expr.Base.TheVariants as b
use Rattle.program_parser.proofs.declarations.qreg_line.Goals as goal

pub returns : goal.returns
unfolding read_qreg_line
returns c =
    let w = c.in_ok-at.ensures in
    let x = c.in_ok-name.ensures in
    let e = c.in_ok-width.ensures in
    let s = c.in_ok-mark.ensures in
    record {
      value = at_one (qubits (scalar b.Qubit (maybe e.value) w.value.at) x.value) w.value.at;
      shown = line_stands _ _ _ _ _ c.line.ensures (λ v f. let p = width_in v _ _ ((later s.after.longer e.shown).holds v f) in let n = (later (after_on e.after s.after).longer x.shown).holds v f in ((qubit_fits _ _ _ p.0, n.0), rw (p.1, n.1, w.shown) refl));
      read = rw (w.read, sym w.after.text, x.read, sym x.after.text, e.read, sym e.after.text, s.read) refl;
      after = fewer 3 1 (omega arith) (after_on w.after (after_on x.after (after_on e.after s.after)));
    }
