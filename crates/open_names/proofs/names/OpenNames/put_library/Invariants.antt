use Rattle.std.proofs.Common.{◌≡◌, drop}
use Rattle.source_meaning.specs.Library.{included}
use Rattle.open_names.specs.Standing.{scopes_of, with_row_slots}
use Rattle.open_names.proofs.names.OpenNames.put_library.Given as goal

-- the names that are left lead to the same open scopes
abbrev pub invariant-loop-place : goal.invariant-loop-place
invariant-loop-place g l = record {
  program : l.self.program ≡ l.fn.self.program;
  left : with_row_slots (drop l.place included) (scopes_of l.self) ≡ with_row_slots included (scopes_of l.fn.self);
}
