use Rattle.std.proofs.Common.{refl}
use Rattle.qasm_grammar.specs.Parts.{call_statement, declared}
use Rattle.program_parser.proofs.Exits.{handed}
use Rattle.program_parser.proofs.Bodies.{plain_line_stands}
use Rattle.program_parser.proofs.named.gate_call_line.Goals as goal

pub returns-in_err-found : goal.returns-in_err-found
returns-in_err-found c = λ x es hx he. handed _ _ _ _ _ _ c.from_residual.ensures (λ no. rw (c.in_err-found.ensures (declared x) es hx he no) refl)

pub returns : goal.returns
returns c =
    λ x es hx he.
    let r = c.in_ok-found.ensures (declared x) es hx he in
    record { value = call_statement r.value; shown = plain_line_stands _ _ _ _ c.statement.ensures r.shown; read = rw r.read refl; after = r.after }
