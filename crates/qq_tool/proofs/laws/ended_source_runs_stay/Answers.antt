use Rattle.qq_tool.proofs.Prefixes.{source_runs_stay}
use Rattle.qq_tool.proofs.laws.ended_source_runs_stay.Goals as goal

pub returns : goal.returns
returns c = source_runs_stay
