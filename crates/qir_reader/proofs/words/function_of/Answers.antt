use Rattle.qir_reader.proofs.FunctionNames.{function_is}
use Rattle.qir_reader.proofs.words.function_of.Goals as goal

pub returns : goal.returns
returns c = function_is c.function_names_differ.ensures c.by_name.result c.args.name.now c.by_name.ensures.found c.by_name.ensures.none
