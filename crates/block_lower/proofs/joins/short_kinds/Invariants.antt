use Rattle.std.proofs.Common.{◌≡◌, ◌≤◌, length, take}
use Rattle.std.specs.Prelude.{slice_get}
use Rattle.std.specs.List.{filter_map}
use Rattle.block_lower.proofs.joins.short_kinds.Given as goal

abbrev pub invariant-loop-c : goal.invariant-loop-c
invariant-loop-c l = (l.short.items ≡ filter_map (slice_get l.kinds) (take l.c-index l.cells)) × (length l.short.items ≤ l.c-index)
