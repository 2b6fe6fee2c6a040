use Rattle.std.proofs.Common.{refl}
use Rattle.qasm_grammar.specs.Parts.{call_statement}
use Rattle.program_parser.proofs.Bodies.{call_line_stands}
use Rattle.program_parser.proofs.calls.call_line.Goals as goal

pub returns : goal.returns
returns c =
    let r = c.in_ok-found.ensures in
    record { value = call_statement r.value; shown = call_line_stands _ _ _ _ c.statement.ensures r.shown; read = rw r.read refl; after = r.after }
