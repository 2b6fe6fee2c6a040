use Rattle.qq_tool.proofs.Lengths.{not_refused}
use Rattle.qq_tool.proofs.laws.thin_texts_are_accepted.Goals as goal

pub returns : goal.returns
returns c = not_refused
