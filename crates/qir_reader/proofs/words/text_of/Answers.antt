use Rattle.qir_reader.proofs.Digits.{text_is_name}
use Rattle.qir_reader.proofs.words.text_of.Goals as goal

pub returns-in-None : goal.returns-in-None
returns-in-None c = text_is_name c.args.body.now _ c.in-None.ensures c.name_of.ensures
