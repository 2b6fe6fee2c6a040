use Rattle.std.proofs.Common.{◌≡◌, refl, sym, ap, ◌∙◌, subst, Err}
use Rattle.qir_lexer.specs.declared.rule.TextFault.{TextFault}
use Rattle.qir_reader.specs.Answered.{IsRead}
use Rattle.profile_check.specs.declared.checker.CheckFault.TheVariants.{Memory, Broken}
use Rattle.profile_check.specs.Check.{breach_in}
use Rattle.qq_tool.specs.declared.verdict.QirRefusal.{QirRefusal}
use Rattle.qq_tool.specs.declared.verdict.QirRefusal.TheVariants.{Text, Profile}
use Rattle.qq_tool.specs.QirRefused.{IsQirRefused, ByText, ByProfile}
use Rattle.qq_tool.specs.Verdict.{line_of}
use Rattle.qq_tool.proofs.verdict.passing_module.Goals as goal

pub returns-in-Err-Refused-clause-refused : goal.returns-in-Err-Refused-clause-refused
returns-in-Err-Refused-clause-refused c = λ refusal e.
    let same : Text c.in-Err-Refused.refusal ≡ refusal = cc in
    let spoilt = subst (λ (fault : TextFault). IsRead c.args.text.now (Err fault)) c.in-Err-Refused.field-0-is c.in-Err-Refused.ensures in
    subst (λ (r : QirRefusal). IsQirRefused c.args.text.now (line_of r)) same (ByText c.requires c.in-Err-Refused.refusal spoilt refl)

pub returns-clause-refused : goal.returns-clause-refused
returns-clause-refused c = λ refusal e.
    let broken = c.in-Err-Broken in
    let same : Profile broken.rule broken.block broken.item ≡ refusal = cc in
    let breaks = broken.ensures.broken (λ f. let wrong : Broken broken.rule broken.block broken.item ≡ Memory = sym broken.field-0-is ∙ f in cc) ∙ ap breach_in broken.field-0-is in
    subst (λ (r : QirRefusal). IsQirRefused c.args.text.now (line_of r)) same (ByProfile c.requires c.in-Ok.«module» c.in-Ok.ensures broken.rule broken.block broken.item breaks refl)
