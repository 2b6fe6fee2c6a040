use Rattle.const_eval.proofs.WalkLaws.{constant_walked, constant_evaluated}
use Rattle.const_eval.proofs.laws.constants_are_constant.Goals as goal

pub returns : goal.returns
returns c = record { walked = constant_walked; in_runs = constant_evaluated }
