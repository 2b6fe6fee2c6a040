use Rattle.std.proofs.Common.{◌-◌, length}
use Rattle.qir_machine.specs.Ready.{GoesOn}
use Rattle.qir_machine.proofs.machine.Machine.step.Given as goal

abbrev pub invariant-forwards : goal.invariant-forwards
invariant-forwards l = GoesOn l.initial.self l.self

abbrev pub decreases-forwards : goal.decreases-forwards
decreases-forwards l = length l.self.of.blocks - l.self.block
