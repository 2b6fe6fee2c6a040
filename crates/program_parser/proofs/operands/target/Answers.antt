use Rattle.std.proofs.Common.{refl, sym}
use Rattle.qasm_grammar.specs.Parts.{operand_at}
use Rattle.qasm_grammar.specs.Reader.{read_target}
use Rattle.qasm_parser.proofs.Growing.{after_on}
use Rattle.program_parser.proofs.Standing.{later, name_stands}
use Rattle.program_parser.proofs.Exits.{handed}
use Rattle.program_parser.proofs.Putting.{target_stands}
use Rattle.program_parser.proofs.operands.target.Goals as goal

pub returns-in_err-index : goal.returns-in_err-index
unfolding read_target
returns-in_err-index c =
    let x = c.in_ok-name.ensures in
    handed _ _ _ _ _ _ c.from_residual-in_err-index.ensures (λ no. rw (x.read, sym x.after.text, c.in_err-index.ensures no) refl)

pub returns : goal.returns
unfolding read_target
returns c =
    let x = c.in_ok-name.ensures in
    let i = c.in_ok-index.ensures in
    record {
      value = operand_at x.value i.value;
      shown = target_stands _ _ _ _ _ (later i.after.longer (name_stands _ _ _ x.shown)) i.shown;
      read = rw (x.read, sym x.after.text, i.read) refl;
      after = after_on x.after i.after;
    }
