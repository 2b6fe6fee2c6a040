use Rattle.std.proofs.Common.{ap, sym, ◌∙◌}
use Rattle.profile_check.specs.Rules.{breach_of}
use Rattle.profile_check.proofs.LawLemmas.{unbroken_passes}
use Rattle.profile_check.proofs.checker.check.Goals as goal

pub returns-in-None-clause-passes : goal.returns-in-None-clause-passes
returns-in-None-clause-passes c = unbroken_passes c.args.«module».now (sym c.in_ok-first_broken_rule.ensures ∙ ap breach_of c.in-None.is)
