use Rattle.std.proofs.Common.{◌≡◌, ◌-◌}
use Rattle.qir_machine.specs.Ready.{items_here, GoesOn}
use Rattle.qir_machine.proofs.machine.Machine.run_block.Given as goal

abbrev pub invariant-instructions : goal.invariant-instructions
invariant-instructions l = record {
  goes_on : GoesOn l.initial.self l.self;
  block : l.self.block ≡ l.initial.self.block;
}

abbrev pub decreases-instructions : goal.decreases-instructions
decreases-instructions l = items_here l.self - l.self.item
