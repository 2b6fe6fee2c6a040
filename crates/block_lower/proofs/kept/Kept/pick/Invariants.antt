use Rattle.std.proofs.Common.{◌≡◌, take}
use Rattle.block_lower.specs.Kept.{picked}
use Rattle.block_lower.proofs.kept.Kept.pick.Given as goal

abbrev pub invariant-loop-c : goal.invariant-loop-c
invariant-loop-c l = l.items.items ≡ picked (take l.c-index l.cells) l.self
