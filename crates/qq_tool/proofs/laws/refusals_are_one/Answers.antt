use Rattle.qq_tool.proofs.Refusals.{refused_once}
use Rattle.qq_tool.proofs.laws.refusals_are_one.Goals as goal

pub returns : goal.returns
returns c = refused_once
