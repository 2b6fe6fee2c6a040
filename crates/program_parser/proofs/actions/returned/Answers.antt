use Rattle.std.proofs.Common.{Some, None, refl, sym, ◌∙◌}
use Rattle.qasm_parser.proofs.Growing.{after_same}
use Rattle.program_parser.proofs.Standing.{none_stands, some_stands}
use Rattle.program_parser.proofs.actions.returned.Goals as goal

pub returns-then-not-begins_value : goal.returns-then-not-begins_value
returns-then-not-begins_value c = record { value = None; shown = none_stands _; read = rw (sym c.begins_value.ensures ∙ c.if-not-begins_value.true) refl; after = after_same _ }

pub returns : goal.returns
returns c =
    let o = c.in_ok-found.ensures in
    record { value = Some o.value; shown = some_stands _ _ _ o.shown; read = rw (sym c.begins_value.ensures ∙ c.if-not-begins_value.false, o.read) refl; after = o.after }
