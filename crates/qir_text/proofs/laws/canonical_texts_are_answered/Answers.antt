use Rattle.qir_text.proofs.Spelled.{answered}
use Rattle.qir_text.proofs.laws.canonical_texts_are_answered.Goals as goal

pub returns : goal.returns
returns c = answered c.written_modules_are_read.ensures c.texts_have_one_answer.ensures.one_module c.texts_have_one_answer.ensures.not_both
