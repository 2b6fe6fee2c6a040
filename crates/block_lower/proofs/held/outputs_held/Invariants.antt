use Rattle.std.proofs.Common.{ℕ, ◌<◌, get_or}
use Rattle.core_ir.specs.declared.program.Output.{Output}
use Rattle.block_graph.specs.Bounds.{IsHeldOutput}
use Rattle.block_lower.proofs.held.outputs_held.Given as goal

abbrev pub invariant-loop-output : goal.invariant-loop-output
invariant-loop-output l = (k : ℕ) (d : Output) → k < l.output-index → IsHeldOutput (get_or l.outputs k d)
