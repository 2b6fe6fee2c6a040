use Rattle.std.proofs.Common.{sym, ◌∙◌}
use Rattle.qq_tool.proofs.Headlines.{headline}
use Rattle.qq_tool.proofs.Telling.{accepts, refuses, passes, breaks}
use Rattle.qq_tool.proofs.tool.run_tool.Goals as goal

pub returns-clause-answer : goal.returns-clause-answer
returns-clause-answer g c = (c.respond.result, c.code.ensures, c.respond.ensures.answer)

pub returns-clause-headline : goal.returns-clause-headline
returns-clause-headline g c = λ compile bytes same sound. headline _ _ _ _ c.respond.result _ c.code.ensures c.respond.ensures.answer compile bytes same sound

pub returns-clause-accepted : goal.returns-clause-accepted
returns-clause-accepted g c =
    λ command bytes is takes same thin one. accepts _ command _ _ _ c.respond.result c.respond.ensures.answer is takes bytes same thin (sym c.code.ensures ∙ one)

pub returns-clause-refused : goal.returns-clause-refused
returns-clause-refused g c =
    λ command bytes refusal is takes same refused none. refuses _ command _ _ _ c.respond.result c.respond.ensures.answer is takes bytes refusal same refused (sym c.code.ensures ∙ none)

pub returns-clause-passing : goal.returns-clause-passing
returns-clause-passing g c =
    λ command bytes m is takes same passing one.
    passes _ command _ _ _ c.respond.result c.passing_texts_are_not_refused.ensures c.respond.ensures.answer is takes bytes m same passing (sym c.code.ensures ∙ one)

pub returns-clause-broken : goal.returns-clause-broken
returns-clause-broken g c =
    λ command bytes line is takes same refused.
    (let none = breaks _ command _ _ _ c.respond.result c.passing_texts_are_not_refused.ensures c.respond.ensures.answer is takes bytes line same refused in (
      λ e. none.0 (sym c.code.ensures ∙ e),
      λ e. none.1 (sym c.code.ensures ∙ e),
      λ e. none.2 (sym c.code.ensures ∙ e),
    ))
