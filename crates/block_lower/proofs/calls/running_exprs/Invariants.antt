use Rattle.std.proofs.Common.{◌≡◌, ◌++◌, drop}
use Rattle.std.specs.List.{flat_map}
use Rattle.core_ir.specs.Size.{running_in}
use Rattle.block_lower.proofs.calls.running_exprs.Given as goal

abbrev pub invariant-loop-arg : goal.invariant-loop-arg
invariant-loop-arg l = l.exprs.items ++ flat_map running_in (drop l.arg-index l.args) ≡ flat_map running_in l.args
