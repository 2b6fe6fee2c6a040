use Rattle.profile_check.proofs.LawLemmas.{unbroken_passes, passing_is_unbroken}
use Rattle.profile_check.proofs.laws.passes_or_is_broken.Goals as goal

pub returns-clause-unbroken : goal.returns-clause-unbroken
returns-clause-unbroken c = unbroken_passes

pub returns-clause-passing : goal.returns-clause-passing
returns-clause-passing c = passing_is_unbroken
