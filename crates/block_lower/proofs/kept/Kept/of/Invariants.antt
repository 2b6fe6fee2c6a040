use Rattle.block_lower.proofs.Keeping.{Gathered}
use Rattle.block_lower.proofs.kept.Kept.of.Given as goal

abbrev pub invariant-loop-c : goal.invariant-loop-c
invariant-loop-c l = Gathered l.row l.c l.cells.items l.operands.items
