use Rattle.qq_tool.proofs.QirTexts.{Laws, decided}
use Rattle.qq_tool.proofs.laws.qir_texts_are_decided.Goals as goal

pub returns : goal.returns
returns c =
    let laws : Laws = record {
      answered = c.texts_are_answered.ensures;
      one_module = c.texts_have_one_answer.ensures.one_module;
      one_breach = c.texts_have_one_answer.ensures.one_breach;
      not_both = c.texts_have_one_answer.ensures.not_both;
      unbroken = c.passes_or_is_broken.ensures.unbroken;
      passing = c.passes_or_is_broken.ensures.passing;
    } in
    decided laws
