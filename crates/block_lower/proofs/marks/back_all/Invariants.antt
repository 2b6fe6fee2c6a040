use Rattle.std.proofs.Common.{◌≡◌, ◌++◌, drop}
use Rattle.block_lower.specs.Marks.{back_marks}
use Rattle.block_lower.proofs.marks.back_all.Given as goal

abbrev pub invariant-loop-mark : goal.invariant-loop-mark
invariant-loop-mark l = l.all.items ++ back_marks l.back (drop l.mark-index l.list) ≡ back_marks l.back l.list
