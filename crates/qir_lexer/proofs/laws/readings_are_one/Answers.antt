use Rattle.qir_lexer.proofs.OneReading.{one_reading}
use Rattle.qir_lexer.proofs.laws.readings_are_one.Goals as goal

pub returns : goal.returns
returns c = one_reading
