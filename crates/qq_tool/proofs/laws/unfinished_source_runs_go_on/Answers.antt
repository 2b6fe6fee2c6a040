use Rattle.qq_tool.proofs.Prefixes.{source_runs_go_on}
use Rattle.qq_tool.proofs.laws.unfinished_source_runs_go_on.Goals as goal

pub returns : goal.returns
returns c = source_runs_go_on
