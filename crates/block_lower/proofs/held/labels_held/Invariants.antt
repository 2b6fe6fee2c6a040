use Rattle.std.proofs.Common.{All, take}
use Rattle.block_graph.specs.Bounds.{AreBytes}
use Rattle.block_lower.proofs.held.labels_held.Given as goal

abbrev pub invariant-loop-label : goal.invariant-loop-label
invariant-loop-label l = All AreBytes (take l.label-index l.labels)
