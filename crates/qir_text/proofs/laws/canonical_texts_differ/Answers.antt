use Rattle.qir_text.proofs.Spelled.{told_apart}
use Rattle.qir_text.proofs.laws.canonical_texts_differ.Goals as goal

pub returns : goal.returns
returns c = told_apart c.written_modules_are_read.ensures c.texts_have_one_answer.ensures.one_module
