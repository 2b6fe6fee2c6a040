use Rattle.std.proofs.Common.{ℕ, ◌<◌, get_or}
use Rattle.core_ir.specs.declared.statement.GateArg.{GateArg}
use Rattle.block_graph.specs.Bounds.{IsHeldArg}
use Rattle.block_lower.proofs.held.args_held.Given as goal

abbrev pub invariant-loop-arg : goal.invariant-loop-arg
invariant-loop-arg l = (k : ℕ) (d : GateArg) → k < l.arg-index → IsHeldArg (get_or l.args k d)
