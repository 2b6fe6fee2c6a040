use Rattle.qq_tool.proofs.Prefixes.{module_runs_stay}
use Rattle.qq_tool.proofs.laws.ended_module_runs_stay.Goals as goal

pub returns : goal.returns
returns c = module_runs_stay
