use Rattle.source_meaning.proofs.LongerRuns.{ended_runs_stay, events_go_on}
use Rattle.source_meaning.proofs.laws.longer_runs_go_on.Goals as goal

pub returns-clause-ended : goal.returns-clause-ended
returns-clause-ended c = ended_runs_stay

pub returns-clause-begun : goal.returns-clause-begun
returns-clause-begun c = events_go_on
