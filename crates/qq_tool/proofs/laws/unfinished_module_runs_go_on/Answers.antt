use Rattle.qq_tool.proofs.Prefixes.{module_runs_go_on}
use Rattle.qq_tool.proofs.laws.unfinished_module_runs_go_on.Goals as goal

pub returns : goal.returns
returns c = module_runs_go_on
