use Rattle.qq_tool.proofs.QirTexts.{are_apart}
use Rattle.qq_tool.proofs.laws.passing_texts_are_not_refused.Goals as goal

pub returns : goal.returns
returns c = are_apart c.texts_have_one_answer.ensures.one_module c.texts_have_one_answer.ensures.not_both c.passes_or_is_broken.ensures.passing
