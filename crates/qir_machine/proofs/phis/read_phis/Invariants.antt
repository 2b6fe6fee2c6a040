use Rattle.std.proofs.Common.{◌≡◌, map, take, drop, length, Some}
use Rattle.qir_machine.specs.Remaining.{value_of}
use Rattle.qir_machine.specs.Memory.{state_of}
use Rattle.qir_machine.specs.Given.{prepend}
use Rattle.qir_machine.specs.Phis.{phi_values}
use Rattle.qir_machine.proofs.phis.read_phis.Given as goal

abbrev pub invariant-loop-index : goal.invariant-loop-index
invariant-loop-index l = record {
  values : phi_values (state_of l.memory) l.phis (Some l.from) ≡ prepend (map value_of (take l.index l.values.items)) (phi_values (state_of l.memory) (drop l.index l.phis) (Some l.from));
  same_length : length l.values.items ≡ length l.initial.values.items;
}
