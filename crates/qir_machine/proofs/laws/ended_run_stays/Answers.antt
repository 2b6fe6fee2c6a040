use Rattle.qir_machine.proofs.Longer.{stays_ended}
use Rattle.qir_machine.proofs.laws.ended_run_stays.Goals as goal

pub returns : goal.returns
returns c = stays_ended
