use Rattle.std.proofs.Common.{◌+◌, drop, sym, ◌∙◌, ap}
use Rattle.qasm_ast.specs.Tree.{text_at}
use Rattle.source_meaning.specs.Library.{included}
use Rattle.open_names.specs.Texts.{standard_names}
use Rattle.open_names.specs.Standing.{scopes_of, with_row_slots}
use Rattle.open_names.proofs.Rows.{rows-step}
use Rattle.open_names.proofs.names.OpenNames.put_library.Goals as goal

pub loop-place-preserved : goal.loop-place-preserved
loop-place-preserved g c =
    let k = c.loop-place.place in
    let stands = c.in_ok-put_standard.ensures in
    record {
      program = stands.program ∙ c.loop-place.invariant.program;
      left =
          ap (with_row_slots (drop (k + 1) included)) stands.scopes
          ∙ sym (rows-step included k (text_at standard_names (k + 6), c.library_row.result.0) (scopes_of c.loop-place.self) c.library_row.ensures)
          ∙ c.loop-place.invariant.left;
    }
