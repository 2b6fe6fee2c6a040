use Rattle.qq_tool.proofs.Texts.{one_program_of}
use Rattle.qq_tool.proofs.laws.one_program.Goals as goal

pub returns : goal.returns
returns c = one_program_of
