use Rattle.std.proofs.Common.{◌≡◌, drop, Some}
use Rattle.qir_module.specs.Machine.{entry_from}
use Rattle.qir_machine.proofs.phis.read_phi.Given as goal

abbrev pub invariant-loop-operand : goal.invariant-loop-operand
invariant-loop-operand l = entry_from l.phi.entries (Some l.from) ≡ entry_from (drop l.operand-index l.operand-items) (Some l.from)
