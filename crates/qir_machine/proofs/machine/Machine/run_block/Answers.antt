use Rattle.std.proofs.Common.{◌∙◌}
use Rattle.qir_machine.proofs.Going.{goes_further, shows_after}
use Rattle.qir_machine.proofs.machine.Machine.run_block.Goals as goal

pub returns : goal.returns
returns c = record { goes_on = c.instructions.invariant.goes_on; block = c.instructions.invariant.block; end = c.instructions-test.ensures }

pub instructions-preserved : goal.instructions-preserved
instructions-preserved c = record {
  goes_on = goes_further _ _ _ c.instructions.invariant.goes_on c.in_default.ensures.goes_on;
  block = c.in_default.ensures.block ∙ c.instructions.invariant.block;
}

pub returns-in-Some : goal.returns-in-Some
returns-in-Some c = shows_after _ _ _ _ _ c.instructions.invariant.goes_on c.in-Some.ensures
