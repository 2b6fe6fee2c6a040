use Rattle.std.proofs.Common.{refl, sym}
use Rattle.qasm_grammar.specs.Parts.{call_of}
use Rattle.qasm_grammar.specs.Reader.{read_operands, read_applied}
use Rattle.qasm_parser.proofs.Growing.{after_on}
use Rattle.program_parser.proofs.Standing.{later}
use Rattle.program_parser.proofs.Exits.{handed}
use Rattle.program_parser.proofs.Putting.{plain_stands}
use Rattle.program_parser.proofs.calls.applied.Goals as goal

pub returns-in_err-operands : goal.returns-in_err-operands
unfolding read_applied read_operands
returns-in_err-operands c = λ x es hx he. handed _ _ _ _ _ _ c.from_residual.ensures (λ no. rw (c.in_err-operands.ensures no) refl)

pub returns-in_err-mark : goal.returns-in_err-mark
unfolding read_applied read_operands
returns-in_err-mark c =
    λ x es hx he.
    let o = c.in_ok-operands.ensures in
    handed _ _ _ _ _ _ c.from_residual-in_err-mark.ensures (λ no. rw (o.read, sym o.after.text, c.in_err-mark.ensures.read no) refl)

pub returns : goal.returns
unfolding read_applied read_operands
returns c =
    λ x es hx he.
    let o = c.in_ok-operands.ensures in
    let s = c.in_ok-mark.ensures in
    let on = after_on o.after s.after in
    record {
      value = call_of x es o.value;
      shown = plain_stands _ _ _ _ _ _ _ _ c.new.ensures.items (later on.longer hx) (later on.longer he) (later s.after.longer o.shown);
      read = rw (o.read, sym o.after.text, s.read) refl;
      after = on;
    }
