use Rattle.std.proofs.Common.{◌≡◌, map}
use Rattle.std.specs.Prelude.{None}
use Rattle.gate_flatten.specs.Applications.{length_of_all}
use Rattle.gate_flatten.specs.Served.{placed_seen}
use Rattle.gate_flatten.proofs.Entering.{operands_from}
use Rattle.gate_flatten.proofs.applications.times_of.Given as goal

abbrev pub invariant-loop-operand : goal.invariant-loop-operand
invariant-loop-operand l = length_of_all None (map placed_seen l.operands) ≡ length_of_all l.times (operands_from l.operand-index l.operands)
