use Rattle.std.proofs.Common.{◌<◌, ◌≤◌, take}
use Rattle.std.specs.List.{AllByRecursion}
use Rattle.qir_module.specs.declared.block.Phi.{Phi}
use Rattle.qir_machine.proofs.layout.with_phis.Given as goal

abbrev pub invariant-loop-phi : goal.invariant-loop-phi
invariant-loop-phi l = record {
  grows : l.initial.registers ≤ l.registers;
  above : AllByRecursion (λ (p : Phi). p.register < l.registers) (take l.phi-index l.phis);
}
