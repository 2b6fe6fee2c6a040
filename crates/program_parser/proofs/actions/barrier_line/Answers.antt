use Rattle.std.proofs.Common.{length, refl, sym, arith}
use Rattle.qasm_ast.specs.Tree.{barrier, operand_of}
use Rattle.qasm_ast.specs.Whole.{OperandFits}
use Rattle.qasm_grammar.specs.Grammar.{at_one}
use Rattle.qasm_grammar.specs.Reader.{read_barrier_line, read_any_operands}
use Rattle.qasm_parser.proofs.Growing.{after_on, fewer}
use Rattle.program_parser.specs.World.{sub_in}
use Rattle.program_parser.proofs.Standing.{later, list_in}
use Rattle.program_parser.proofs.Exits.{handed}
use Rattle.program_parser.proofs.Bodies.{gate_line_stands}
use Rattle.program_parser.proofs.actions.barrier_line.Goals as goal

pub returns-in_err-items : goal.returns-in_err-items
unfolding read_barrier_line read_any_operands
returns-in_err-items c =
    let w = c.in_ok-at.ensures in
    handed _ _ _ _ _ _ c.from_residual-in_err-items.ensures (λ no. rw (w.read, sym w.after.text, c.in_err-items.ensures no) refl)

pub returns-in_err-mark : goal.returns-in_err-mark
unfolding read_barrier_line read_any_operands
returns-in_err-mark c =
    let w = c.in_ok-at.ensures in
    let o = c.in_ok-items.ensures in
    handed _ _ _ _ _ _ c.from_residual-in_err-mark.ensures (λ no. rw (w.read, sym w.after.text, o.read, sym o.after.text, c.in_err-mark.ensures.read no) refl)

pub returns : goal.returns
unfolding read_barrier_line read_any_operands
returns c =
    let w = c.in_ok-at.ensures in
    let o = c.in_ok-items.ensures in
    let s = c.in_ok-mark.ensures in
    record {
      value = at_one (barrier o.value) w.value.at;
      shown = gate_line_stands _ _ _ _ _ c.line.ensures tt (λ v f. let p = list_in (OperandFits v.known (length v.exprs)) (operand_of v.names (sub_in v)) _ _ ((later s.after.longer o.shown).holds v f) in (p.0, rw (p.1, w.shown) refl));
      read = rw (w.read, sym w.after.text, o.read, sym o.after.text, s.read) refl;
      after = fewer 2 1 (omega arith) (after_on w.after (after_on o.after s.after));
    }
