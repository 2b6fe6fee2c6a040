use Rattle.std.proofs.Common.{refl}
use Rattle.qasm_grammar.specs.Parts.{declared}
use Rattle.program_parser.proofs.Standing.{name_stands}
use Rattle.program_parser.proofs.operands.declared.Goals as goal

pub returns : goal.returns
returns c =
    let x = c.in_ok-name.ensures in
    record { value = declared x.value; shown = name_stands _ _ _ x.shown; read = rw x.read refl; after = x.after }
