use Rattle.std.proofs.Common.{refl, sym, arith}
use Rattle.qasm_grammar.specs.Parts.{operand_at}
use Rattle.qasm_grammar.specs.Reader.{read_assignment}
use Rattle.program_parser.proofs.Standing.{later}
use Rattle.program_parser.proofs.Exits.{handed, behind}
use Rattle.program_parser.proofs.Putting.{target_stands}
use Rattle.program_parser.proofs.named.assignment.Goals as goal

pub returns-in_err-index : goal.returns-in_err-index
unfolding read_assignment
returns-in_err-index c = λ x known. handed _ _ _ _ _ _ c.from_residual.ensures (λ no. rw (c.in_err-index.ensures no) refl)

pub returns : goal.returns
unfolding read_assignment
returns c =
    λ x known.
    let i = c.in_ok-index.ensures in
    behind 0 1 1 (omega arith) _ _ _ _ _ _ c.assigned.result i.after (rw (i.read, sym i.after.text) refl) (c.assigned.ensures (operand_at x i.value) (target_stands _ _ _ _ _ (later i.after.longer known) i.shown))
