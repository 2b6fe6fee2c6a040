use Rattle.std.proofs.Common.{◌≡◌, drop, map}
use Rattle.std.specs.Map.{lookup}
use Rattle.const_eval.specs.Seen.{is_same_operand}
use Rattle.gate_cases.specs.Answered.{operand_told}
use Rattle.gate_cases.proofs.answers.answer_of.Given as goal

abbrev pub invariant-loop-entry : goal.invariant-loop-entry
invariant-loop-entry l = lookup (is_same_operand l.name) (map operand_told l.answers) ≡ lookup (is_same_operand l.name) (map operand_told (drop l.entry-index l.answers))
