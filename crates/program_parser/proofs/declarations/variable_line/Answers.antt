use Rattle.std.proofs.Common.{length, refl, sym, ap, arith}
use Rattle.qasm_ast.specs.Tree.{variable, value_of, Scalar}
use Rattle.qasm_ast.specs.Whole.{ValueFits}
use Rattle.qasm_grammar.specs.Grammar.{at_one}
use Rattle.qasm_grammar.specs.Reader.{read_variable_line}
use Rattle.qasm_parser.proofs.Growing.{after_on, fewer}
use Rattle.program_parser.specs.World.{sub_in}
use Rattle.program_parser.proofs.Standing.{later, maybe_in, line_stands}
use Rattle.program_parser.proofs.declarations.variable_line.Goals as goal

pub returns : goal.returns
unfolding read_variable_line
returns c =
    let y = c.in_ok-ty.ensures in
    let x = c.in_ok-name.ensures in
    let i = c.in_ok-initial.ensures in
    let s = c.in_ok-mark.ensures in
    record {
      value = at_one (variable y.value x.value i.value) y.value.place;
      shown = line_stands _ _ _ _ _ c.line.ensures (λ v f. let p = (later (after_on x.after (after_on i.after s.after)).longer y.shown).holds v f in let n = (later (after_on i.after s.after).longer x.shown).holds v f in let q = maybe_in (ValueFits v.known (length v.exprs)) (value_of v.names (sub_in v)) v _ _ ((later s.after.longer i.shown).holds v f) in ((p.0, n.0, q.0), rw (p.1, ap (λ (a : Scalar). a.place) p.1, n.1, q.1) refl));
      read = rw (y.read, sym y.after.text, x.read, sym x.after.text, i.read, sym i.after.text, s.read) refl;
      after = fewer 3 1 (omega arith) (after_on y.after (after_on x.after (after_on i.after s.after)));
    }
