use Rattle.qir_machine.proofs.Bounds.{ample_bounds}
use Rattle.qir_machine.proofs.laws.bound_never_ends_a_run.Goals as goal

pub returns : goal.returns
returns c = ample_bounds
