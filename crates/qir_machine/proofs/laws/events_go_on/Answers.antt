use Rattle.qir_machine.proofs.Longer.{keeps_events}
use Rattle.qir_machine.proofs.laws.events_go_on.Goals as goal

pub returns : goal.returns
returns c = keeps_events
