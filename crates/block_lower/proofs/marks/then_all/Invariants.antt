use Rattle.std.proofs.Common.{◌≡◌, ◌++◌, drop}
use Rattle.block_lower.specs.Marks.{then_marks}
use Rattle.block_lower.proofs.marks.then_all.Given as goal

abbrev pub invariant-loop-mark : goal.invariant-loop-mark
invariant-loop-mark l = l.all.items ++ then_marks l.a (drop l.mark-index l.list) ≡ then_marks l.a l.list
