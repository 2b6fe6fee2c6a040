use Rattle.std.proofs.Common.{take, map}
use Rattle.gate_flatten.specs.Serves.{HasOperands}
use Rattle.gate_cases.specs.Answered.{operand_told}
use Rattle.gate_cases.proofs.serves.are_answered.Given as goal

abbrev pub invariant-loop-operand : goal.invariant-loop-operand
invariant-loop-operand l = HasOperands (map operand_told l.answers) (take l.operand-index l.operands)
