use Rattle.std.proofs.Common.{Some, None, refl, sym, arith}
use Rattle.qasm_parser.proofs.Growing.{after_same, after_on, fewer}
use Rattle.program_parser.proofs.Standing.{none_stands, some_stands}
use Rattle.program_parser.proofs.actions.aim.Goals as goal

pub returns-then-not-eat : goal.returns-then-not-eat
returns-then-not-eat c =
    let e = c.if-not-eat.ensures in
    rw e.1 (record { value = None; shown = none_stands _; read = rw e.0 refl; after = after_same _ })

pub returns : goal.returns
returns c =
    let e = c.if-not-eat.ensures in
    let o = c.in_ok-found.ensures in
    record { value = Some o.value; shown = some_stands _ _ _ o.shown; read = rw (e.seen, e.read, sym e.after.text, o.read) refl; after = fewer 2 0 (omega arith) (after_on e.after o.after) }
