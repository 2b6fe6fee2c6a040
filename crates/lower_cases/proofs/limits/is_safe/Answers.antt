use Rattle.lower_cases.proofs.Bounds.{safe_from}
use Rattle.lower_cases.proofs.limits.is_safe.Goals as goal

pub returns : goal.returns
returns c = λ passes. safe_from c.args.exprs.now (c.are_safe.ensures.0 passes)
