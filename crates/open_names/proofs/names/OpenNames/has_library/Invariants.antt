use Rattle.std.proofs.Common.{◌≡◌, drop}
use Rattle.source_meaning.specs.Library.{included}
use Rattle.open_names.specs.Standing.{scopes_of, has_one_of}
use Rattle.open_names.proofs.names.OpenNames.has_library.Given as goal

-- none of the names so far is there
abbrev pub invariant-loop-place : goal.invariant-loop-place
invariant-loop-place g l = has_one_of included (scopes_of l.self) ≡ has_one_of (drop l.place included) (scopes_of l.self)
