use Rattle.qq_tool.proofs.ThinPrograms.{programs_of_thin}
use Rattle.qq_tool.proofs.laws.thin_texts_are_programs.Goals as goal

pub returns : goal.returns
returns c = programs_of_thin
