use Rattle.qir_module.proofs.FunctionNames.{function_names_differ}
use Rattle.qir_module.proofs.laws.function_names_differ.Goals as goal

pub returns : goal.returns
returns c = function_names_differ
