use Rattle.expr_names.proofs.Programs.{trees_name}
use Rattle.expr_names.proofs.laws.programs_name_their_names.Goals as goal

pub returns : goal.returns
returns c = trees_name
