use Rattle.std.proofs.Common.{◌≡◌, ◌+◌, drop}
use Rattle.gate_lists.specs.Modifiers as spec
use Rattle.gate_lists.proofs.modified.control_count.Given as goal

abbrev pub invariant-loop-modifier : goal.invariant-loop-modifier
invariant-loop-modifier l = l.count + spec.control_count (drop l.modifier-index l.modifiers) ≡ spec.control_count l.modifiers
