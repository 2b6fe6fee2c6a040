use Rattle.std.proofs.Common.{Some, length, refl, sym, ◌∙◌, arith}
use Rattle.qasm_ast.specs.Tree.{alias, operand_of}
use Rattle.qasm_ast.specs.Whole.{OperandFits}
use Rattle.qasm_grammar.specs.Grammar.{at_one}
use Rattle.qasm_grammar.specs.Reader.{read_operand, read_joins, read_ended, read_alias_line}
use Rattle.qasm_parser.proofs.Growing.{after_on, fewer}
use Rattle.program_parser.specs.World.{sub_in}
use Rattle.program_parser.proofs.Standing.{later, list_in, line_stands}
use Rattle.program_parser.proofs.Exits.{handed}
use Rattle.program_parser.proofs.Joining.{first_apart}
use Rattle.program_parser.proofs.declarations.alias_line.Goals as goal

pub returns-in_err-operands : goal.returns-in_err-operands
unfolding read_alias_line
returns-in_err-operands c =
    let text = c.mark.new.self.text in
    let w = c.in_ok-at.ensures in
    let x = c.in_ok-name.ensures in
    let a = c.in_ok-mark.ensures in
    let apart = first_apart (read_operand text (Some 64) c.args.room c.mark.new.self.left) (read_joins text (Some 64) c.args.room) (λ os. read_ended text (at_one (alias x.value os) w.value.at)) in
    handed _ _ _ _ _ _ c.from_residual-in_err-operands.ensures (λ no. rw (w.read, sym w.after.text, x.read, sym x.after.text, a.read, sym a.after.text) (apart ∙ rw (c.in_err-operands.ensures no) refl))

pub returns-in_err-mark-2 : goal.returns-in_err-mark-2
unfolding read_alias_line
returns-in_err-mark-2 c =
    let text = c.mark.new.self.text in
    let w = c.in_ok-at.ensures in
    let x = c.in_ok-name.ensures in
    let a = c.in_ok-mark.ensures in
    let j = c.in_ok-operands.ensures in
    let apart = first_apart (read_operand text (Some 64) c.args.room c.mark.new.self.left) (read_joins text (Some 64) c.args.room) (λ os. read_ended text (at_one (alias x.value os) w.value.at)) in
    handed _ _ _ _ _ _ c.from_residual-in_err-mark-2.ensures (λ no. rw (w.read, sym w.after.text, x.read, sym x.after.text, a.read, sym a.after.text) (apart ∙ rw (j.read, sym j.after.text, c.in_err-mark-2.ensures.read no) refl))

pub returns : goal.returns
unfolding read_alias_line
returns c =
    let text = c.mark.new.self.text in
    let w = c.in_ok-at.ensures in
    let x = c.in_ok-name.ensures in
    let a = c.in_ok-mark.ensures in
    let j = c.in_ok-operands.ensures in
    let s = c.in_ok-mark-2.ensures in
    let apart = first_apart (read_operand text (Some 64) c.args.room c.mark.new.self.left) (read_joins text (Some 64) c.args.room) (λ os. read_ended text (at_one (alias x.value os) w.value.at)) in
    record {
      value = at_one (alias x.value j.value) w.value.at;
      shown = line_stands _ _ _ _ _ c.line.ensures (λ v f. let n = (later (after_on a.after (after_on j.after s.after)).longer x.shown).holds v f in let q = list_in (OperandFits v.known (length v.exprs)) (operand_of v.names (sub_in v)) _ _ ((later s.after.longer j.shown).holds v f) in ((n.0, q.0), rw (n.1, q.1, w.shown) refl));
      read = rw (w.read, sym w.after.text, x.read, sym x.after.text, a.read, sym a.after.text) (apart ∙ rw (j.read, sym j.after.text, s.read) refl);
      after = fewer 5 1 (omega arith) (after_on w.after (after_on x.after (after_on a.after (after_on j.after s.after))));
    }
