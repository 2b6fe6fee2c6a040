-- Parts of a step, one behind another.
use Rattle.std.proofs.Common.{Bool, Option, ◌∙◌}
use Rattle.qq_base.specs.declared.run.Step.{Step}
use Rattle.qir_machine.specs.Remaining.{Run, remaining}
use Rattle.qir_machine.specs.Ready.{GoesOn, Shows}
use Rattle.qir_machine.proofs.Runs.{step_of_same}

pub goes_further : (old between new : Run) → GoesOn old between → GoesOn between new → GoesOn old new
goes_further old between new a b = record { of = b.of ∙ a.of; same = λ outcomes turns. a.same outcomes turns ∙ b.same outcomes turns }

pub shows_after : (old between : Run) (given : Option Bool) (step : Step) (new : Run) → GoesOn old between → Shows between given step new → Shows old given step new
shows_after old between given step new a b = record { of = b.of ∙ a.of; is_step = step_of_same (remaining old) (remaining between) given step (remaining new) a.same b.is_step; records_last = b.records_last }
