use Rattle.std.proofs.Common.{◌≡◌, ◌+◌, ◌++◌, drop}
use Rattle.qq_tool.specs.Lowered.{bit_record_instrs}
use Rattle.qq_tool.proofs.lower.add_records.Given as goal

-- the records so far, and those of the operands that are left, are all
abbrev pub invariant-loop-operand : goal.invariant-loop-operand
invariant-loop-operand l = record {
  label : l.label ≡ l.operand-index + 1;
  body : l.body.items ++ bit_record_instrs l.label (drop l.operand-index l.operands) ≡ l.initial.body.items ++ bit_record_instrs 1 l.operands;
}
