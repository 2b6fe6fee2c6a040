use Rattle.qir_machine.proofs.NeverStuck.{never_stuck}
use Rattle.qir_machine.proofs.laws.passing_module_is_never_stuck.Goals as goal

pub returns : goal.returns
returns c = never_stuck
