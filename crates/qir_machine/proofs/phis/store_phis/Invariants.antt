use Rattle.std.proofs.Common.{◌≡◌, ◌≤◌, map, drop, length}
use Rattle.qir_machine.specs.Remaining.{value_of}
use Rattle.qir_machine.specs.Memory.{state_of}
use Rattle.qir_machine.specs.Phis.{stored_phis}
use Rattle.qir_machine.proofs.phis.store_phis.Given as goal

abbrev pub invariant-loop-left : goal.invariant-loop-left
invariant-loop-left l = record {
  within : l.left ≤ length l.phis;
  state : state_of l.memory ≡ stored_phis (drop l.left l.phis) (map value_of (drop l.left l.values)) (state_of l.initial.memory);
  registers : length l.memory.registers.items ≡ length l.initial.memory.registers.items;
  results : length l.memory.results.items ≡ length l.initial.memory.results.items;
}

abbrev pub decreases-loop-left : goal.decreases-loop-left
decreases-loop-left l = l.left
