use Rattle.std.proofs.Common.{length, refl, ap, arith}
use Rattle.qasm_parser.proofs.Growing.{has_room, spend}
use Rattle.qasm_parser.proofs.Showing.{shorter}
use Rattle.program_parser.proofs.Exits.{handed}
use Rattle.program_parser.proofs.Bodies.{plain_of_gate}
use Rattle.program_parser.proofs.Pushing.{may_push, member_stands}
use Rattle.program_parser.proofs.gates.member.Goals as goal

pub push-requires-clause-room : goal.push-requires-clause-room
push-requires-clause-room c = has_room c.in_ok-found.ensures.after

pub push-requires-clause-fits : goal.push-requires-clause-fits
push-requires-clause-fits c = may_push _ _ _ (plain_of_gate _ _ _ c.in_ok-found.ensures.shown)

pub returns-in_err-id-clause-reads : goal.returns-in_err-id-clause-reads
returns-in_err-id-clause-reads c = handed _ _ _ _ _ _ c.from_residual-in_err-id.ensures (λ no. absurd (no c.in_err-id.ensures.0))

pub returns-clause-reads : goal.returns-clause-reads
returns-clause-reads c =
    let l = c.in_ok-found.ensures in
    let p = c.in_ok-id.ensures in
    record { value = l.value; shown = member_stands _ _ _ _ _ p l.shown; read = rw (l.read, p.left) refl; after = spend l.after p.after }

pub returns-clause-moves : goal.returns-clause-moves
returns-clause-moves c = omega (arith, shorter c.in_ok-found.ensures.after, ap length c.in_ok-id.ensures.left)
